-- One step of a join, whatever stands below it.
use Rattle.std.proofs.Common.{◌≡◌, ℕ, Bool, true, false, cond, List, [], ◌∷◌, ◌++◌, Result, Ok, Err, refl, sym, ap, ◌∙◌, subst, inl, inr, append-nil}
use Rattle.ic_base.specs.declared.port.PortEntry.{PortEntry}
use Rattle.ic_base.specs.declared.port.PortNo.{PortNo}
use Rattle.pl_tree.specs.declared.node.Pair.{Pair}
use Rattle.pl_ops.specs.declared.words.Side.{Side}
use Rattle.pl_ops.specs.declared.words.Side.TheVariants.{Left, Right}
use Rattle.pl_ops.specs.declared.words.Next.TheVariants as next
use Rattle.pl_ops.specs.Rows.{Line, join_rows}
use Rattle.pl_ops.specs.Streams.{Stream, silent, join_stream}
use Rattle.pl_ops.specs.Giving.{with_row, at_its_end, IsAll, IsOver}
use Rattle.pl_runs.specs.Steps.{Step, calls_of}
use Rattle.ic_motion.specs.Pulling.{AtMostOne}
use Rattle.ex_join.specs.Joins.{Joining}
use Rattle.ex_join.specs.Joins as joins
use Rattle.ex_tree.specs.declared.answers.Pulled.{Pulled}
use Rattle.ex_tree.specs.declared.answers.Pulled.TheVariants as got
use Rattle.ex_tree.specs.declared.answers.TreeNo.{TreeNo}
use Rattle.ex_tree.specs.declared.answers.TreeNo.TheVariants as why
use Rattle.ex_tree.specs.Parts.{Source, Part, Joins, Has, AreApart, out, wants, Overflowed}
use Rattle.ex_tree.specs.Running.{State, Two, Runs, RunsTwo, Asked}
use Rattle.ex_tree.specs.Pulling.{IsAsked, IsSound, Leaves, Pulls, PullsAny}
use Rattle.ex_tree.specs.Nodes.{Wanted2, Passed2}
use Rattle.ex_tree.proofs.Fronts.{IsFront, join_front}
use Rattle.ex_tree.proofs.Frames.{child_front, out_pass, runs_pass, asked_pass, take_silent, IsSilentFor, quiet_so}
use Rattle.ex_tree.proofs.Nodes.{most_map, quiet, all_given, over_given, over_front, not_ended, has_in, fails_in}

-- of a right side that has ended, and of one that goes on
joined_ended : (on : List Pair) (r l : Stream) → r.ended ≡ true → join_stream on r l ≡ record { rows = join_rows on r.rows l.rows; ended = l.ended }
joined_ended on r l e = ap (λ b. cond b (record { rows = join_rows on r.rows l.rows; ended = l.ended }) silent) e

joined_open : (on : List Pair) (r l : Stream) → r.ended ≡ false → join_stream on r l ≡ silent
joined_open on r l e = ap (λ b. cond b (record { rows = join_rows on r.rows l.rows; ended = l.ended }) silent) e

pub two_row : (old new : Joining) (row : Line) → ((on : List Pair) → joins.Answers on old new (next.Row row)) → (x y : State) (log : List PortEntry) → PullsAny (Two old x y) (Two new x y) log log (Ok (got.Row row))
two_row old new row f x y log part steps given calls (on, l, r, is, q) =
    quiet part (Two new x y) steps given log log (Ok (got.Row row)) calls refl
    (refl, (on, l, r, is, record { from_left = q.from_left; from_right = q.from_right; left_child = q.left_child; right_child = q.right_child; gives = f on q.from_left q.from_right given q.gives; apart = q.apart }))

pub two_end : (old new : Joining) → ((on : List Pair) → joins.Answers on old new next.End) → (x y : State) (log : List PortEntry) → PullsAny (Two old x y) (Two new x y) log log (Ok got.End)
two_end old new f x y log part steps given calls (on, l, r, is, q) =
    let g = f on q.from_left q.from_right given q.gives in
    let front = join_front on q.from_right (out r steps) q.from_left (out l steps) (child_front r y steps q.from_right q.right_child) (child_front l x steps q.from_left q.left_child) in
    quiet part (Two new x y) steps given log log (Ok got.End) calls refl (
      refl,
      subst (λ t. IsOver (out t steps) given) (sym is) (over_front (join_stream on q.from_right q.from_left) (join_stream on (out r steps) (out l steps)) given front g.2),
      (on, l, r, is, record { from_left = q.from_left; from_right = q.from_right; left_child = q.left_child; right_child = q.right_child; gives = g.3; apart = q.apart }),
    )

-- ---- what a step of one child leaves of the other

silent_beside : (l r : Part) (steps : List Step) (a : List Line) (s : Step) → AreApart l r → IsAsked l steps a s → IsSilentFor r s
silent_beside l r steps a s apart asked t has = take_silent asked.source.end.motion t.end.motion s asked.takes (λ e. apart asked.source t asked.has has (sym e))

beside : (l r : Part) (y : State) (steps more : List Step) (a : List Line) (given : Stream) → AreApart l r → AtMostOne (IsAsked l steps a) more → Asked (Runs r y steps) (out r steps) given → Asked (Runs r y (steps ++ more)) (out r (steps ++ more)) given
beside l r y steps [] a given apart h asked = subst (λ k. Asked (Runs r y k) (out r k) given) (sym (append-nil steps)) asked
beside l r y steps (s ∷ []) a given apart h asked =
    let silent = silent_beside l r steps a s apart h in
    asked_pass (Runs r y steps) (Runs r y (steps ++ s ∷ [])) (out r steps) (out r (steps ++ s ∷ [])) given (runs_pass r y steps s silent) (out_pass r steps s (quiet_so r s silent)) asked
beside l r y steps (s ∷ t ∷ more) a given apart h asked = absurd h

pub turned : (l r : Part) → AreApart l r → AreApart r l
turned l r apart a b ha hb e = apart b a hb ha (sym e)

-- ---- the left child

module _ (old new : Joining) (x y z : State) (log now : List PortEntry) (was : Joining) (w : (on : List Pair) → Wanted2 Left on was old) where
  left_open : (on : List Pair) (s t : Stream) (a : List Line) → joins.Gives on was s t a → s.ended ≡ false
  left_open on s t a g = let k = w on s t a g in sym (ap (λ (u : Stream). u.ended) (joined_ended on t s k.0)) ∙ k.1.goes_on

  pub left_row : (row : Line) → ((on : List Pair) → joins.Given Left on old new row) → PullsAny x z log now (Ok (got.Row row)) → PullsAny (Two was x y) (Two new z y) log now (Ok got.Step)
  left_row row f v part steps given calls (on, l, r, is, q) =
      let g = w on q.from_left q.from_right given q.gives in
      let open_ = left_open on q.from_left q.from_right given q.gives in
      let p = v l steps q.from_left.rows calls q.left_child.runs in
      record {
        more = [];
        log = p.log ∙ ap (λ m. calls_of (steps ++ m)) p.leaves.0;
        makes = tt;
        leaves = (
          refl,
          (
            on,
            l,
            r,
            is,
            record {
              from_left = with_row q.from_left row;
              from_right = q.from_right;
              left_child = record { runs = p.leaves.1; over = λ e. not_ended q.from_left open_ e };
              right_child = q.right_child;
              gives = f on q.from_left q.from_right given open_ g.2;
              apart = q.apart;
            },
          ),
        );
      }

  pub left_end : ((on : List Pair) → joins.Ended Left on old new) → PullsAny x z log now (Ok got.End) → PullsAny (Two was x y) (Two new z y) log now (Ok got.Step)
  left_end f v part steps given calls (on, l, r, is, q) =
      let g = w on q.from_left q.from_right given q.gives in
      let open_ = left_open on q.from_left q.from_right given q.gives in
      let p = v l steps q.from_left.rows calls q.left_child.runs in
      record {
        more = [];
        log = p.log ∙ ap (λ m. calls_of (steps ++ m)) p.leaves.0;
        makes = tt;
        leaves = (
          refl,
          (
            on,
            l,
            r,
            is,
            record {
              from_left = at_its_end q.from_left;
              from_right = q.from_right;
              left_child = record { runs = p.leaves.2; over = λ e. p.leaves.1 };
              right_child = q.right_child;
              gives = f on q.from_left q.from_right given open_ g.2;
              apart = q.apart;
            },
          ),
        );
      }

  pub left_step : old ≡ new → PullsAny x z log now (Ok got.Step) → PullsAny (Two was x y) (Two new z y) log now (Ok got.Step)
  left_step same v part steps given calls (on, l, r, is, q) =
      let g = w on q.from_left q.from_right given q.gives in
      let open_ = left_open on q.from_left q.from_right given q.gives in
      let p = v l steps q.from_left.rows calls q.left_child.runs in
      record {
        more = [];
        log = p.log ∙ ap (λ m. calls_of (steps ++ m)) p.leaves.0;
        makes = tt;
        leaves = (
          refl,
          (
            on,
            l,
            r,
            is,
            record {
              from_left = q.from_left;
              from_right = q.from_right;
              left_child = record { runs = p.leaves.1; over = λ e. not_ended q.from_left open_ e };
              right_child = q.right_child;
              gives = subst (λ o. joins.Gives on o q.from_left q.from_right given) same g.2;
              apart = q.apart;
            },
          ),
        );
      }

  left_asks : (part : Part) (steps : List Step) (given : List Line) (on : List Pair) (l r : Part) (s t : Stream) → part ≡ Joins on l r → Asked (Runs r y steps) (out r steps) t → joins.Gives on was s t given → (e : Step) → IsAsked l steps s.rows e → IsAsked part steps given e
  left_asks part steps given on l r s t is right gives e a =
      let g = w on s t given gives in
      let left_same = all_given (out l steps) s (left_open on s t given gives) a.all in
      let right_same = over_given (out r steps) t g.0 (right.over g.0) in
      record {
        source = a.source;
        has = subst (λ q. Has q a.source) (sym is) (inl a.has);
        takes = a.takes;
        from = a.from;
        all = subst (λ q. IsAll (out q steps) given) (sym is) (subst (λ u. IsAll (join_stream on u (out l steps)) given) (sym right_same) (subst (λ u. IsAll (join_stream on t u) given) (sym left_same) g.1));
        wanted = a.wanted ∙ sym (ap (λ q. wants q steps) is ∙ ap (λ b. cond b (wants l steps) (wants r steps)) (right.over g.0).ended);
        once = a.once;
      }

  left_fails : (k : Joining) (no_ : TreeNo) → PullsAny x z log now (Err no_) → PullsAny (Two was x y) (Two k z y) log now (Err no_)
  left_fails k no_ v part steps given calls (on, l, r, is, q) =
      let p = v l steps q.from_left.rows calls q.left_child.runs in
      record {
        more = p.more;
        log = p.log;
        makes = most_map (IsAsked l steps q.from_left.rows) (IsAsked part steps given) p.more (left_asks part steps given on l r q.from_left q.from_right is q.right_child q.gives) p.makes;
        leaves = fails_in l part z (Two k z y) steps p.more q.from_left.rows given no_ (λ t h. subst (λ u. Has u t) (sym is) (inl h)) (λ n h. subst (λ u. Overflowed u steps n) (sym is) (inl h)) p.leaves;
      }

  left_runs : (part : Part) (steps more : List Step) (given : List Line) (on : List Pair) (l r : Part) → part ≡ Joins on l r
      → (q : RunsTwo (Runs l x steps) (Runs r y steps) (out l steps) (out r steps) (λ s t. joins.Gives on was s t given) (AreApart l r))
      → AtMostOne (IsAsked l steps q.from_left.rows) more → old ≡ new → Runs l z (steps ++ more) q.from_left.rows → Runs part (Two new z y) (steps ++ more) given
  left_runs part steps more given on l r is q makes same runs =
      let g = w on q.from_left q.from_right given q.gives in (
        on,
        l,
        r,
        is,
        record {
          from_left = q.from_left;
          from_right = q.from_right;
          left_child = record { runs = runs; over = λ e. not_ended q.from_left (left_open on q.from_left q.from_right given q.gives) e };
          right_child = beside l r y steps more q.from_left.rows q.from_right q.apart makes q.right_child;
          gives = subst (λ o. joins.Gives on o q.from_left q.from_right given) same g.2;
          apart = q.apart;
        },
      )

  pub left_more : old ≡ new → PullsAny x z log now (Ok got.More) → PullsAny (Two was x y) (Two new z y) log now (Ok got.More)
  left_more same v part steps given calls (on, l, r, is, q) =
      let p = v l steps q.from_left.rows calls q.left_child.runs in
      record {
        more = p.more;
        log = p.log;
        makes = most_map (IsAsked l steps q.from_left.rows) (IsAsked part steps given) p.more (left_asks part steps given on l r q.from_left q.from_right is q.right_child q.gives) p.makes;
        leaves = (p.leaves.0, most_map (IsSound l steps) (IsSound part steps) p.more (has_in l part steps (λ t h. subst (λ u. Has u t) (sym is) (inl h))) p.leaves.1, left_runs part steps p.more given on l r is q p.makes same p.leaves.2);
      }

  pub left_wait : (no_ : PortNo) → old ≡ new → PullsAny x z log now (Ok (got.Wait no_)) → PullsAny (Two was x y) (Two new z y) log now (Ok (got.Wait no_))
  left_wait no_ same v part steps given calls (on, l, r, is, q) =
      let p = v l steps q.from_left.rows calls q.left_child.runs in
      record {
        more = p.more;
        log = p.log;
        makes = most_map (IsAsked l steps q.from_left.rows) (IsAsked part steps given) p.more (left_asks part steps given on l r q.from_left q.from_right is q.right_child q.gives) p.makes;
        leaves = (p.leaves.0, most_map (IsSound l steps) (IsSound part steps) p.more (has_in l part steps (λ t h. subst (λ u. Has u t) (sym is) (inl h))) p.leaves.1, left_runs part steps p.more given on l r is q p.makes same p.leaves.2);
      }

pub left_fails_so : (old k : Joining) (x y z : State) (log now : List PortEntry) (was : Joining) → ((on : List Pair) → Wanted2 Left on was old) → (no_ : TreeNo) → PullsAny x z log now (Err no_) → PullsAny (Two was x y) (Two k z y) log now (Err no_)
left_fails_so old k x y z log now was w no_ v = left_fails old k x y z log now was w k no_ v

-- ---- the right child

module _ (old new : Joining) (x y z : State) (log now : List PortEntry) (was : Joining) (w : (on : List Pair) → Wanted2 Right on was old) where
  pub right_row : (row : Line) → ((on : List Pair) → joins.Given Right on old new row) → PullsAny y z log now (Ok (got.Row row)) → PullsAny (Two was x y) (Two new x z) log now (Ok got.Step)
  right_row row f v part steps given calls (on, l, r, is, q) =
      let g = w on q.from_left q.from_right given q.gives in
      let p = v r steps q.from_right.rows calls q.right_child.runs in
      record {
        more = [];
        log = p.log ∙ ap (λ m. calls_of (steps ++ m)) p.leaves.0;
        makes = tt;
        leaves = (
          refl,
          (
            on,
            l,
            r,
            is,
            record {
              from_left = q.from_left;
              from_right = with_row q.from_right row;
              left_child = q.left_child;
              right_child = record { runs = p.leaves.1; over = λ e. not_ended q.from_right g.0 e };
              gives = f on q.from_left q.from_right given g.0 g.2;
              apart = q.apart;
            },
          ),
        );
      }

  pub right_end : ((on : List Pair) → joins.Ended Right on old new) → PullsAny y z log now (Ok got.End) → PullsAny (Two was x y) (Two new x z) log now (Ok got.Step)
  right_end f v part steps given calls (on, l, r, is, q) =
      let g = w on q.from_left q.from_right given q.gives in
      let p = v r steps q.from_right.rows calls q.right_child.runs in
      record {
        more = [];
        log = p.log ∙ ap (λ m. calls_of (steps ++ m)) p.leaves.0;
        makes = tt;
        leaves = (
          refl,
          (
            on,
            l,
            r,
            is,
            record {
              from_left = q.from_left;
              from_right = at_its_end q.from_right;
              left_child = q.left_child;
              right_child = record { runs = p.leaves.2; over = λ e. p.leaves.1 };
              gives = f on q.from_left q.from_right given g.0 g.2;
              apart = q.apart;
            },
          ),
        );
      }

  pub right_step : old ≡ new → PullsAny y z log now (Ok got.Step) → PullsAny (Two was x y) (Two new x z) log now (Ok got.Step)
  right_step same v part steps given calls (on, l, r, is, q) =
      let g = w on q.from_left q.from_right given q.gives in
      let p = v r steps q.from_right.rows calls q.right_child.runs in
      record {
        more = [];
        log = p.log ∙ ap (λ m. calls_of (steps ++ m)) p.leaves.0;
        makes = tt;
        leaves = (
          refl,
          (
            on,
            l,
            r,
            is,
            record {
              from_left = q.from_left;
              from_right = q.from_right;
              left_child = q.left_child;
              right_child = record { runs = p.leaves.1; over = λ e. not_ended q.from_right g.0 e };
              gives = subst (λ o. joins.Gives on o q.from_left q.from_right given) same g.2;
              apart = q.apart;
            },
          ),
        );
      }

  right_asks : (part : Part) (steps : List Step) (given : List Line) (on : List Pair) (l r : Part) (s t : Stream) → part ≡ Joins on l r → joins.Gives on was s t given → (e : Step) → IsAsked r steps t.rows e → IsAsked part steps given e
  right_asks part steps given on l r s t is gives e a =
      let g = w on s t given gives in
      let none : IsAll silent given = subst (λ u. IsAll u given) (joined_open on t s g.0) g.1 in
      record {
        source = a.source;
        has = subst (λ q. Has q a.source) (sym is) (inr a.has);
        takes = a.takes;
        from = a.from;
        all = subst (λ q. IsAll (out q steps) given) (sym is) (subst (λ u. IsAll u given) (sym (joined_open on (out r steps) (out l steps) a.all.goes_on)) none);
        wanted = a.wanted ∙ sym (ap (λ q. wants q steps) is ∙ ap (λ b. cond b (wants l steps) (wants r steps)) a.all.goes_on);
        once = a.once;
      }

  right_fails : (k : Joining) (no_ : TreeNo) → PullsAny y z log now (Err no_) → PullsAny (Two was x y) (Two k x z) log now (Err no_)
  right_fails k no_ v part steps given calls (on, l, r, is, q) =
      let p = v r steps q.from_right.rows calls q.right_child.runs in
      record {
        more = p.more;
        log = p.log;
        makes = most_map (IsAsked r steps q.from_right.rows) (IsAsked part steps given) p.more (right_asks part steps given on l r q.from_left q.from_right is q.gives) p.makes;
        leaves = fails_in r part z (Two k x z) steps p.more q.from_right.rows given no_ (λ t h. subst (λ u. Has u t) (sym is) (inr h)) (λ n h. subst (λ u. Overflowed u steps n) (sym is) (inr h)) p.leaves;
      }

  right_runs : (part : Part) (steps more : List Step) (given : List Line) (on : List Pair) (l r : Part) → part ≡ Joins on l r
      → (q : RunsTwo (Runs l x steps) (Runs r y steps) (out l steps) (out r steps) (λ s t. joins.Gives on was s t given) (AreApart l r))
      → AtMostOne (IsAsked r steps q.from_right.rows) more → old ≡ new → Runs r z (steps ++ more) q.from_right.rows → Runs part (Two new x z) (steps ++ more) given
  right_runs part steps more given on l r is q makes same runs =
      let g = w on q.from_left q.from_right given q.gives in (
        on,
        l,
        r,
        is,
        record {
          from_left = q.from_left;
          from_right = q.from_right;
          left_child = beside r l x steps more q.from_right.rows q.from_left (turned l r q.apart) makes q.left_child;
          right_child = record { runs = runs; over = λ e. not_ended q.from_right g.0 e };
          gives = subst (λ o. joins.Gives on o q.from_left q.from_right given) same g.2;
          apart = q.apart;
        },
      )

  pub right_more : old ≡ new → PullsAny y z log now (Ok got.More) → PullsAny (Two was x y) (Two new x z) log now (Ok got.More)
  right_more same v part steps given calls (on, l, r, is, q) =
      let p = v r steps q.from_right.rows calls q.right_child.runs in
      record {
        more = p.more;
        log = p.log;
        makes = most_map (IsAsked r steps q.from_right.rows) (IsAsked part steps given) p.more (right_asks part steps given on l r q.from_left q.from_right is q.gives) p.makes;
        leaves = (p.leaves.0, most_map (IsSound r steps) (IsSound part steps) p.more (has_in r part steps (λ t h. subst (λ u. Has u t) (sym is) (inr h))) p.leaves.1, right_runs part steps p.more given on l r is q p.makes same p.leaves.2);
      }

  pub right_wait : (no_ : PortNo) → old ≡ new → PullsAny y z log now (Ok (got.Wait no_)) → PullsAny (Two was x y) (Two new x z) log now (Ok (got.Wait no_))
  right_wait no_ same v part steps given calls (on, l, r, is, q) =
      let p = v r steps q.from_right.rows calls q.right_child.runs in
      record {
        more = p.more;
        log = p.log;
        makes = most_map (IsAsked r steps q.from_right.rows) (IsAsked part steps given) p.more (right_asks part steps given on l r q.from_left q.from_right is q.gives) p.makes;
        leaves = (p.leaves.0, most_map (IsSound r steps) (IsSound part steps) p.more (has_in r part steps (λ t h. subst (λ u. Has u t) (sym is) (inr h))) p.leaves.1, right_runs part steps p.more given on l r is q p.makes same p.leaves.2);
      }

pub right_fails_so : (old k : Joining) (x y z : State) (log now : List PortEntry) (was : Joining) → ((on : List Pair) → Wanted2 Right on was old) → (no_ : TreeNo) → PullsAny y z log now (Err no_) → PullsAny (Two was x y) (Two k x z) log now (Err no_)
right_fails_so old k x y z log now was w no_ v = right_fails old k x y z log now was w k no_ v

-- ---- by side

pub side_row : (side : Side) (old new : Joining) (row : Line) (g : Pulled) → g ≡ got.Row row → ((on : List Pair) → joins.Given side on old new row) → Passed2 side old new g (Ok got.Step)
side_row Left old new row g e f = λ x y z log now was w v. left_row old new x y z log now was w row f (subst (λ r. PullsAny x z log now (Ok r)) e v)
side_row Right old new row g e f = λ x y z log now was w v. right_row old new x y z log now was w row f (subst (λ r. PullsAny y z log now (Ok r)) e v)

pub side_end : (side : Side) (old new : Joining) (g : Pulled) → g ≡ got.End → ((on : List Pair) → joins.Ended side on old new) → Passed2 side old new g (Ok got.Step)
side_end Left old new g e f = λ x y z log now was w v. left_end old new x y z log now was w f (subst (λ r. PullsAny x z log now (Ok r)) e v)
side_end Right old new g e f = λ x y z log now was w v. right_end old new x y z log now was w f (subst (λ r. PullsAny y z log now (Ok r)) e v)

pub side_step : (side : Side) (j : Joining) (g : Pulled) → g ≡ got.Step → Passed2 side j j g (Ok got.Step)
side_step Left j g e = λ x y z log now was w v. left_step j j x y z log now was w refl (subst (λ r. PullsAny x z log now (Ok r)) e v)
side_step Right j g e = λ x y z log now was w v. right_step j j x y z log now was w refl (subst (λ r. PullsAny y z log now (Ok r)) e v)

pub side_more : (side : Side) (j : Joining) (g : Pulled) → g ≡ got.More → Passed2 side j j g (Ok got.More)
side_more Left j g e = λ x y z log now was w v. left_more j j x y z log now was w refl (subst (λ r. PullsAny x z log now (Ok r)) e v)
side_more Right j g e = λ x y z log now was w v. right_more j j x y z log now was w refl (subst (λ r. PullsAny y z log now (Ok r)) e v)

pub side_wait : (side : Side) (j : Joining) (no_ : PortNo) (g : Pulled) → g ≡ got.Wait no_ → Passed2 side j j g (Ok (got.Wait no_))
side_wait Left j no_ g e = λ x y z log now was w v. left_wait j j x y z log now was w no_ refl (subst (λ r. PullsAny x z log now (Ok r)) e v)
side_wait Right j no_ g e = λ x y z log now was w v. right_wait j j x y z log now was w no_ refl (subst (λ r. PullsAny y z log now (Ok r)) e v)
