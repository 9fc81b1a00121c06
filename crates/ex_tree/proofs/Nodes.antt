-- One step of an operator, whatever stands below it.
use Rattle.std.proofs.Common.{◌≡◌, ℕ, ◌+◌, ◌≤◌, Bool, true, false, cond, None, List, [], ◌∷◌, ◌++◌, length, take, Result, Ok, Err, refl, sym, ap, ◌∙◌, subst, inl, inr, arith, append-nil, length-append}
use Rattle.std.specs.Prelude.{nat_le, ◌||◌, ◌⊎◌}
use Rattle.std.proofs.lemmas.List.{take-append-le}
use Rattle.ic_base.specs.declared.port.PortEntry.{PortEntry}
use Rattle.ic_base.specs.declared.port.PortNo.{PortNo}
use Rattle.pl_tree.specs.declared.node.Pair.{Pair}
use Rattle.pl_ops.specs.declared.words.Side.{Side}
use Rattle.pl_ops.specs.declared.words.Side.TheVariants.{Left, Right}
use Rattle.pl_ops.specs.declared.words.Next.TheVariants as next
use Rattle.pl_ops.specs.Rows.{Line, join_rows}
use Rattle.pl_ops.specs.Streams.{Stream, silent, join_stream}
use Rattle.pl_ops.specs.Giving.{with_row, at_its_end, IsAll, IsOver}
use Rattle.pl_ops.specs.Overflow.{AllHaveRoom}
use Rattle.pl_runs.specs.Steps.{Step, calls_of}
use Rattle.ic_motion.specs.Pulling.{AtMostOne}
use Rattle.ex_basic.specs.Single.{Answers, Given, Ended}
use Rattle.ex_join.specs.Joins.{Joining}
use Rattle.ex_join.specs.Joins as joins
use Rattle.ex_agg.specs.Aggs as aggs
use Rattle.ex_tree.specs.declared.op.Op.{Op}
use Rattle.ex_tree.specs.declared.answers.Pulled.{Pulled}
use Rattle.ex_tree.specs.declared.answers.Pulled.TheVariants as got
use Rattle.ex_tree.specs.declared.answers.TreeNo.{TreeNo}
use Rattle.ex_tree.specs.declared.answers.TreeNo.TheVariants as why
use Rattle.ex_tree.specs.Parts.{Single, Source, Part, Filters, Projects, Limits, Sorts, Groups, Blank, Over, Joins, Has, AreApart, out, wants, one_stream, is_full, IsTooMuch, Overflowed}
use Rattle.ex_tree.specs.Operators.{Gives, RefusesRow}
use Rattle.ex_tree.specs.Running.{State, One, Two, Runs, RunsTwo, Asked}
use Rattle.ex_tree.specs.Pulling.{IsAsked, IsSound, IsSpoilt, Leaves, Pulls, PullsAny}
use Rattle.ex_tree.specs.Nodes.{Wanted, Passed, Wanted2, Passed2}
use Rattle.ex_tree.proofs.Fronts.{Begins, IsFront, single_front, join_front, same_rows}
use Rattle.ex_tree.proofs.Frames.{runs_begin, child_front, out_pass, runs_pass, asked_pass, take_silent, IsSilentFor}

-- ---- words

pub most_map : (P Q : Step → Type 0) (more : List Step) → ((s : Step) → P s → Q s) → AtMostOne P more → AtMostOne Q more
most_map P Q [] f h = tt
most_map P Q (s ∷ []) f h = f s h
most_map P Q (s ∷ t ∷ more) f h = absurd h

-- no call was made
pub quiet : (part : Part) (new : State) (steps : List Step) (given : List Line) (log now : List PortEntry) (result : Result Pulled TreeNo) → calls_of steps ≡ log → now ≡ log → Leaves part new steps [] given result
    → Pulls part new steps given now result
quiet part new steps given log now result calls same leaves = record { more = []; log = same ∙ sym calls ∙ ap calls_of (sym (append-nil steps)); makes = tt; leaves = leaves }

same_stream : (s t : Stream) → s.rows ≡ t.rows → s.ended ≡ t.ended → s ≡ t
same_stream s t p q = ap (λ rows. record { rows = rows; ended = s.ended }) p ∙ ap (λ e. record { rows = t.rows; ended = e }) q

-- what the child has given is all that it gives so far
pub all_given : (all given : Stream) → given.ended ≡ false → IsAll all given.rows → all ≡ given
all_given all given e r = same_stream all given (sym r.rows) (r.goes_on ∙ sym e)

pub over_given : (all given : Stream) → given.ended ≡ true → IsOver all given.rows → all ≡ given
over_given all given e r = same_stream all given (sym r.rows) (r.ended ∙ sym e)

pub over_front : (s t : Stream) (a : List Line) → IsFront s t → IsOver s a → IsOver t a
over_front s t a h o = record { ended = (h.ended o.ended).0; rows = o.rows ∙ sym (same_rows s t h o.ended) }

pub not_ended : {A : Type 0} (s : Stream) → s.ended ≡ false → s.ended ≡ true → A
not_ended s e f = absurd (cc)

or_no : (a b : Bool) → (a || b) ≡ false → b ≡ false
or_no true b e = absurd (cc)
or_no false b e = e

not_full : (p : Single) (s : Stream) → (one_stream p s).ended ≡ false → is_full p s ≡ false
not_full (Filters test) s e = refl
not_full (Projects columns) s e = refl
not_full (Limits count) s e = or_no s.ended (nat_le count (length s.rows)) e
not_full (Sorts keys) s e = refl
not_full (Groups node final group calls) s e = refl
not_full Blank s e = refl

more_too_much : (p : Single) (xs ys : List Line) (node : ℕ) → Begins xs ys → IsTooMuch p xs node → IsTooMuch p ys node
more_too_much (Groups number final group calls) xs ys node b h = (
  h.0,
  (
    h.1.0,
    (let e = ap length b.1 in let le = h.1.1 in omega (arith, le, e, length-append xs b.0)),
    λ all. h.1.2 (subst (λ l. AllHaveRoom (aggs.rows_of final group calls l)) (ap (take h.1.0) b.1 ∙ take-append-le h.1.0 xs b.0 h.1.1) all),
  ),
)
more_too_much (Filters test) xs ys node b h = absurd h
more_too_much (Projects columns) xs ys node b h = absurd h
more_too_much (Limits count) xs ys node b h = absurd h
more_too_much (Sorts keys) xs ys node b h = absurd h
more_too_much Blank xs ys node b h = absurd h

-- what a child's step is, is one of its parent
pub has_in : (part whole : Part) (steps : List Step) → ((source : Source) → Has part source → Has whole source) → (s : Step) → IsSound part steps s → IsSound whole steps s
has_in part whole steps f s h = record { read = h.read; source = h.source; has = f h.source h.has; takes = h.takes; sound = h.sound }

spoilt_in : (part whole : Part) (steps : List Step) → ((source : Source) → Has part source → Has whole source) → (key : _) (s : Step) → IsSpoilt part steps key s → IsSpoilt whole steps key s
spoilt_in part whole steps f key s h = record { read = h.read; source = h.source; has = f h.source h.has; p = h.p; is = h.is; key_is = h.key_is; spoils = h.spoils }

pub fails_in : (part whole : Part) (y z : State) (steps more : List Step) (a given : List Line) (no_ : TreeNo) → ((source : Source) → Has part source → Has whole source) → ((node : ℕ) → Overflowed part steps node → Overflowed whole steps node)
    → Leaves part y steps more a (Err no_) → Leaves whole z steps more given (Err no_)
fails_in part whole y z steps more a given (why.Malformed key) f g h = (h.0, h.1, spoilt_in part whole steps f key h.0 h.2)
fails_in part whole y z steps more a given (why.Overflow node) f g h = (h.0, g node h.1)
fails_in part whole y z steps more a given why.Memory f g h = tt

-- ---- one input

pub one_row : (old new : Op) (row : Line) → ((p : Single) → Answers (Gives p) (one_stream p) old new (next.Row row)) → (x : State) (log : List PortEntry) → PullsAny (One old x) (One new x) log log (Ok (got.Row row))
one_row old new row f x log part steps given calls (p, c, is, r) =
    quiet part (One new x) steps given log log (Ok (got.Row row)) calls refl (refl, (p, c, is, record { given = r.given; child = r.child; gives = f p r.given given r.gives }))

pub one_end : (old new : Op) → ((p : Single) → Answers (Gives p) (one_stream p) old new next.End) → (x : State) (log : List PortEntry) → PullsAny (One old x) (One new x) log log (Ok got.End)
one_end old new f x log part steps given calls (p, c, is, r) =
    let g = f p r.given given r.gives in
    let front = single_front p r.given (out c steps) (child_front c x steps r.given r.child) in
    quiet part (One new x) steps given log log (Ok got.End) calls refl (
      refl,
      subst (λ q. IsOver (out q steps) given) (sym is) (over_front (one_stream p r.given) (one_stream p (out c steps)) given front g.0),
      (p, c, is, record { given = r.given; child = r.child; gives = g.1 }),
    )

module _ (old new : Op) (x y : State) (log now : List PortEntry) (was : Op) (w : (p : Single) → Wanted p was old) where
  pub pass_row : (row : Line) → ((p : Single) → Given (Gives p) old new row) → PullsAny x y log now (Ok (got.Row row)) → PullsAny (One was x) (One new y) log now (Ok got.Step)
  pass_row row f v part steps given calls (p, c, is, r) =
      let g = w p r.given given r.gives in
      let q = v c steps r.given.rows calls r.child.runs in
      record {
        more = [];
        log = q.log ∙ ap (λ m. calls_of (steps ++ m)) q.leaves.0;
        makes = tt;
        leaves = (refl, (p, c, is, record { given = with_row r.given row; child = record { runs = q.leaves.1; over = λ e. not_ended r.given g.0 e }; gives = f p r.given given g.0 g.2 }));
      }

  pub refuse_row : (row : Line) (no_ : TreeNo) → RefusesRow old row no_ → PullsAny x y log now (Ok (got.Row row)) → PullsAny (One was x) (One new y) log now (Err no_)
  refuse_row row no_ f v part steps given calls (p, c, is, r) =
      let g = w p r.given given r.gives in
      let q = v c steps r.given.rows calls r.child.runs in
      record { more = []; log = q.log ∙ ap (λ m. calls_of (steps ++ m)) q.leaves.0; makes = tt; leaves = by no_ f q.leaves.1 g.2 }
    where
      by : (no_ : TreeNo) → RefusesRow old row no_ → Runs c y steps (r.given.rows ++ row ∷ []) → Gives p old r.given given → Leaves part (One new y) steps [] given (Err no_)
      by (why.Malformed key) f runs g = absurd f
      by (why.Overflow node) f runs g =
          (refl, subst (λ q. Overflowed q steps node) (sym is) (inl (more_too_much p (r.given.rows ++ row ∷ []) (out c steps).rows node (runs_begin c y steps (r.given.rows ++ row ∷ []) runs) (f p r.given given g))))
      by why.Memory f runs g = tt

  pub pass_end : ((p : Single) → Ended (Gives p) old new) → PullsAny x y log now (Ok got.End) → PullsAny (One was x) (One new y) log now (Ok got.Step)
  pass_end f v part steps given calls (p, c, is, r) =
      let g = w p r.given given r.gives in
      let q = v c steps r.given.rows calls r.child.runs in
      record {
        more = [];
        log = q.log ∙ ap (λ m. calls_of (steps ++ m)) q.leaves.0;
        makes = tt;
        leaves = (refl, (p, c, is, record { given = at_its_end r.given; child = record { runs = q.leaves.2; over = λ e. q.leaves.1 }; gives = f p r.given given g.0 g.2 }));
      }

  pub pass_step : old ≡ new → PullsAny x y log now (Ok got.Step) → PullsAny (One was x) (One new y) log now (Ok got.Step)
  pass_step same v part steps given calls (p, c, is, r) =
      let g = w p r.given given r.gives in
      let q = v c steps r.given.rows calls r.child.runs in
      record {
        more = [];
        log = q.log ∙ ap (λ m. calls_of (steps ++ m)) q.leaves.0;
        makes = tt;
        leaves = (refl, (p, c, is, record { given = r.given; child = record { runs = q.leaves.1; over = λ e. not_ended r.given g.0 e }; gives = subst (λ o. Gives p o r.given given) same g.2 }));
      }

  one_asks : (part : Part) (steps : List Step) (given : List Line) (p : Single) (c : Part) (s : Stream) → part ≡ Over p c → Gives p was s given → (e : Step) → IsAsked c steps s.rows e → IsAsked part steps given e
  one_asks part steps given p c s is r e a =
      let g = w p s given r in
      let same = all_given (out c steps) s g.0 a.all in
      record {
        source = a.source;
        has = subst (λ q. Has q a.source) (sym is) a.has;
        takes = a.takes;
        from = a.from;
        all = subst (λ q. IsAll (out q steps) given) (sym is) (subst (λ t. IsAll (one_stream p t) given) (sym same) g.1);
        wanted = a.wanted ∙ sym (ap (λ q. wants q steps) is ∙ ap (λ b. cond b None (wants c steps)) (ap (is_full p) same ∙ not_full p s g.1.goes_on));
        once = a.once;
      }

  one_fails : (z : Op) (no_ : TreeNo) → PullsAny x y log now (Err no_) → PullsAny (One was x) (One z y) log now (Err no_)
  one_fails z no_ v part steps given calls (p, c, is, r) =
      let q = v c steps r.given.rows calls r.child.runs in
      record {
        more = q.more;
        log = q.log;
        makes = most_map (IsAsked c steps r.given.rows) (IsAsked part steps given) q.more (one_asks part steps given p c r.given is r.gives) q.makes;
        leaves = fails_in c part y (One z y) steps q.more r.given.rows given no_ (λ t h. subst (λ k. Has k t) (sym is) h) (λ n h. subst (λ k. Overflowed k steps n) (sym is) (inr h)) q.leaves;
      }

  pub pass_more : old ≡ new → PullsAny x y log now (Ok got.More) → PullsAny (One was x) (One new y) log now (Ok got.More)
  pass_more same v part steps given calls (p, c, is, r) =
      let g = w p r.given given r.gives in
      let q = v c steps r.given.rows calls r.child.runs in
      record {
        more = q.more;
        log = q.log;
        makes = most_map (IsAsked c steps r.given.rows) (IsAsked part steps given) q.more (one_asks part steps given p c r.given is r.gives) q.makes;
        leaves = (
          q.leaves.0,
          most_map (IsSound c steps) (IsSound part steps) q.more (has_in c part steps (λ t h. subst (λ k. Has k t) (sym is) h)) q.leaves.1,
          (p, c, is, record { given = r.given; child = record { runs = q.leaves.2; over = λ e. not_ended r.given g.0 e }; gives = subst (λ o. Gives p o r.given given) same g.2 }),
        );
      }

  pub pass_wait : (no_ : PortNo) → old ≡ new → PullsAny x y log now (Ok (got.Wait no_)) → PullsAny (One was x) (One new y) log now (Ok (got.Wait no_))
  pass_wait no_ same v part steps given calls (p, c, is, r) =
      let g = w p r.given given r.gives in
      let q = v c steps r.given.rows calls r.child.runs in
      record {
        more = q.more;
        log = q.log;
        makes = most_map (IsAsked c steps r.given.rows) (IsAsked part steps given) q.more (one_asks part steps given p c r.given is r.gives) q.makes;
        leaves = (
          q.leaves.0,
          most_map (IsSound c steps) (IsSound part steps) q.more (has_in c part steps (λ t h. subst (λ k. Has k t) (sym is) h)) q.leaves.1,
          (p, c, is, record { given = r.given; child = record { runs = q.leaves.2; over = λ e. not_ended r.given g.0 e }; gives = subst (λ o. Gives p o r.given given) same g.2 }),
        );
      }

pub one_fails_so : (old z : Op) (x y : State) (log now : List PortEntry) (was : Op) → ((p : Single) → Wanted p was old) → (no_ : TreeNo) → PullsAny x y log now (Err no_) → PullsAny (One was x) (One z y) log now (Err no_)
one_fails_so old z x y log now was w no_ v = one_fails old z x y log now was w z no_ v

-- what it wants, it wants of the left
pub wanted_left : (old new : Op) (side : Side) → ((p : Single) → Answers (Gives p) (one_stream p) old new (next.Wants side)) → (p : Single) → Wanted p old new
wanted_left old new Left f p = f p
wanted_left old new Right f p = absurd (f p)
