-- The program's trees, seen as states, through one pull.
use Rattle.std.proofs.Common.{◌≡◌, ℕ, ◌+◌, ◌*◌, ◌≤◌, ◌<◌, List, Result, Ok, Err, refl, sym, ap, ◌∙◌, subst, arith}
use Rattle.std.specs.Prelude.{Box, IfOk, OnOk}
use Rattle.std.specs.declared.alloc.Global.{Global}
use Rattle.ic_base.specs.declared.keys.ConnEnd.{ConnEnd}
use Rattle.ic_base.specs.declared.port.PortEntry.{PortEntry}
use Rattle.pl_tree.specs.declared.node.Pair.{Pair}
use Rattle.pl_ops.specs.declared.words.Side.TheVariants.{Left, Right}
use Rattle.ic_motion.specs.Hearing.{Listener}
use Rattle.ex_join.specs.Joins.{Joining}
use Rattle.ex_tree.specs.declared.op.Op.{Op}
use Rattle.ex_tree.specs.declared.answers.Pulled.{Pulled}
use Rattle.ex_tree.specs.declared.answers.TreeNo.{TreeNo}
use Rattle.ex_tree.specs.declared.tree.Tree.{Tree}
use Rattle.ex_tree.specs.declared.tree.Tree.TheVariants as views
use Rattle.ex_tree.specs.declared.tree.Tree.TheVariants.{rolls-Hears, rolls-One, rolls-Two}
use Rattle.ex_tree.specs.declared.tree.Tree.TheOpen.{Tree-F}
use Rattle.ex_tree.specs.declared.tree.Tree.TheFolds.{fold-roll-Tree}
use Rattle.ex_tree.specs.Parts.{Single}
use Rattle.ex_tree.specs.Running.{State, Scans, Ears, One, Two, state_of, state_step, AreHeard}
use Rattle.ic_motion.specs.declared.answers.Sent.{Sent}
use Rattle.ic_motion.specs.declared.answers.Sent.TheVariants.{Done}
use Rattle.ex_tree.specs.Pulling.{PullsAny}
use Rattle.ex_tree.specs.Halting.{HaltsAny}
use Rattle.ex_tree.proofs.Halts.{right_halts}
use Rattle.ex_tree.specs.Nodes.{Wanted, Passed, Wanted2, Passed2}
use Rattle.ex_tree.proofs.Joints.{left_fails_so, right_fails_so}

pub state_ear : (m : Listener) → state_of (views.Hears m) ≡ Ears m
state_ear m = ap state_of (sym (rolls-Hears m)) ∙ fold-roll-Tree State state_step (Tree-F.Hears m)

pub state_one : (op : Op) (b : Box Tree Global) → state_of (views.One op b) ≡ One op (state_of b.value)
state_one op b = ap state_of (sym (rolls-One op b)) ∙ fold-roll-Tree State state_step (Tree-F.One op b)

pub state_two : (j : Joining) (b c : Box Tree Global) → state_of (views.Two j b c) ≡ Two j (state_of b.value) (state_of c.value)
state_two j b c = ap state_of (sym (rolls-Two j b c)) ∙ fold-roll-Tree State state_step (Tree-F.Two j b c)

pub is_ear : (t : Tree) (m : Listener) → t ≡ views.Hears m → state_of t ≡ Ears m
is_ear t m e = ap state_of e ∙ state_ear m

pub is_one : (t : Tree) (op : Op) (b : Box Tree Global) → t ≡ views.One op b → state_of t ≡ One op (state_of b.value)
is_one t op b e = ap state_of e ∙ state_one op b

pub is_two : (t : Tree) (j : Joining) (b c : Box Tree Global) → t ≡ views.Two j b c → state_of t ≡ Two j (state_of b.value) (state_of c.value)
is_two t j b c e = ap state_of e ∙ state_two j b c

pub again_one : (op other : Op) (b c : Box Tree Global) → views.One op b ≡ views.One other c → One op (state_of b.value) ≡ One other (state_of c.value)
again_one op other b c e = sym (state_one op b) ∙ ap state_of e ∙ state_one other c

pub again_two : (i j : Joining) (a b c d : Box Tree Global) → views.Two i a b ≡ views.Two j c d → Two i (state_of a.value) (state_of b.value) ≡ Two j (state_of c.value) (state_of d.value)
again_two i j a b c d e = sym (state_two i a b) ∙ ap state_of e ∙ state_two j c d

-- ---- by any other name

pub pulls_as : (s t x y : State) (log now : List PortEntry) (result : Result Pulled TreeNo) → s ≡ x → t ≡ y → PullsAny x y log now result → PullsAny s t log now result
pulls_as s t x y log now result d e f = subst (λ u. PullsAny s u log now result) (sym e) (subst (λ u. PullsAny u y log now result) (sym d) f)

pub heard_as : (s t x y : State) → s ≡ x → t ≡ y → ((keys : List ConnEnd) → AreHeard keys x → AreHeard keys y) → (keys : List ConnEnd) → AreHeard keys s → AreHeard keys t
heard_as s t x y d e f keys h = subst (AreHeard keys) (sym e) (f keys (subst (AreHeard keys) d h))

pub on_so : {A E : Type 0} (r : Result A E) (P : Type 0) → P → OnOk r P
on_so (Ok x) P p = p
on_so (Err e) P p = tt

pub on_map : {A E : Type 0} (r : Result A E) (P Q : Type 0) → (P → Q) → OnOk r P → OnOk r Q
on_map (Ok x) P Q f p = f p
on_map (Err e) P Q f p = tt

one_op : (a b : Op) (x y : State) → One a x ≡ One b y → a ≡ b
one_op a b x y e = cc

one_child : (a b : Op) (x y : State) → One a x ≡ One b y → x ≡ y
one_child a b x y e = cc

two_join : (a b : Joining) (w x y z : State) → Two a w x ≡ Two b y z → a ≡ b
two_join a b w x y z e = cc

two_left : (a b : Joining) (w x y z : State) → Two a w x ≡ Two b y z → w ≡ y
two_left a b w x y z e = cc

two_right : (a b : Joining) (w x y z : State) → Two a w x ≡ Two b y z → x ≡ z
two_right a b w x y z e = cc

-- ---- one input: before, after the operator was asked, after its child was pulled, and at the end

module _ (s t : State) (was asked mid last new : Op) (x x1 y z : State) (d : s ≡ One was x) (e : One asked x ≡ One mid x1) (f : One mid y ≡ One last z) (u : t ≡ One new z) where
  pub one_pulled : (log now : List PortEntry) (got : Pulled) (result : Result Pulled TreeNo) → ((p : Single) → Wanted p was asked) → Passed last new got result → PullsAny x1 y log now (Ok got) → PullsAny s t log now result
  one_pulled log now got result w p v =
      pulls_as s t (One was x) (One new z) log now result d u
      (p x z log now was (λ q. subst (Wanted q was) (one_op asked mid x x1 e ∙ one_op mid last y z f) (w q)) (pulls_as x z x1 y log now (Ok got) (one_child asked mid x x1 e) (sym (one_child mid last y z f)) v))

  pub one_heard : ((keys : List ConnEnd) → AreHeard keys x1 → AreHeard keys y) → (keys : List ConnEnd) → AreHeard keys s → AreHeard keys t
  one_heard h = heard_as s t (One was x) (One new z) d u (heard_as x z x1 y (one_child asked mid x x1 e) (sym (one_child mid last y z f)) h)

-- ---- two inputs

module _ (s t : State) (was asked mid : Joining) (x y x1 y1 z : State) (log now : List PortEntry) (no_ : TreeNo) (d : s ≡ Two was x y) (e : Two asked x y ≡ Two mid x1 y1) where
  pub left_failed : t ≡ Two mid z y1 → ((on : List Pair) → Wanted2 Left on was asked) → PullsAny x1 z log now (Err no_) → PullsAny s t log now (Err no_)
  left_failed u w v =
      pulls_as s t (Two was x y) (Two mid z y) log now (Err no_) d (u ∙ ap (λ k. Two mid z k) (sym (two_right asked mid x y x1 y1 e)))
      (left_fails_so asked mid x y z log now was w no_ (pulls_as x z x1 z log now (Err no_) (two_left asked mid x y x1 y1 e) refl v))

  pub right_failed : t ≡ Two mid x1 z → ((on : List Pair) → Wanted2 Right on was asked) → PullsAny y1 z log now (Err no_) → PullsAny s t log now (Err no_)
  right_failed u w v =
      pulls_as s t (Two was x y) (Two mid x z) log now (Err no_) d (u ∙ ap (λ k. Two mid k z) (sym (two_left asked mid x y x1 y1 e)))
      (right_fails_so asked mid x y z log now was w no_ (pulls_as y z y1 z log now (Err no_) (two_right asked mid x y x1 y1 e) refl v))

module _ (s t : State) (was asked mid last new : Joining) (x y x1 y1 z x2 y2 : State) (d : s ≡ Two was x y) (e : Two asked x y ≡ Two mid x1 y1) (u : t ≡ Two new x2 y2) where
  pub left_pulled : Two mid z y1 ≡ Two last x2 y2 → (log now : List PortEntry) (got : Pulled) (result : Result Pulled TreeNo) → ((on : List Pair) → Wanted2 Left on was asked) → Passed2 Left last new got result → PullsAny x1 z log now (Ok got) → PullsAny s t log now result
  left_pulled f log now got result w p v =
      pulls_as s t (Two was x y) (Two new x2 y) log now result d (u ∙ ap (λ k. Two new x2 k) (sym (two_right asked mid x y x1 y1 e ∙ two_right mid last z y1 x2 y2 f)))
      (p x y x2 log now was (λ on. subst (Wanted2 Left on was) (two_join asked mid x y x1 y1 e ∙ two_join mid last z y1 x2 y2 f) (w on))
      (pulls_as x x2 x1 z log now (Ok got) (two_left asked mid x y x1 y1 e) (sym (two_left mid last z y1 x2 y2 f)) v))

  pub right_pulled : Two mid x1 z ≡ Two last x2 y2 → (log now : List PortEntry) (got : Pulled) (result : Result Pulled TreeNo) → ((on : List Pair) → Wanted2 Right on was asked) → Passed2 Right last new got result → PullsAny y1 z log now (Ok got) → PullsAny s t log now result
  right_pulled f log now got result w p v =
      pulls_as s t (Two was x y) (Two new x y2) log now result d (u ∙ ap (λ k. Two new k y2) (sym (two_left asked mid x y x1 y1 e ∙ two_left mid last x1 z x2 y2 f)))
      (p x y y2 log now was (λ on. subst (Wanted2 Right on was) (two_join asked mid x y x1 y1 e ∙ two_join mid last x1 z x2 y2 f) (w on))
      (pulls_as y y2 y1 z log now (Ok got) (two_right asked mid x y x1 y1 e) (sym (two_right mid last x1 z x2 y2 f)) v))

  pub left_heard : Two mid z y1 ≡ Two last x2 y2 → ((keys : List ConnEnd) → AreHeard keys x1 → AreHeard keys z) → (keys : List ConnEnd) → AreHeard keys s → AreHeard keys t
  left_heard f h keys k =
      let a = subst (AreHeard keys) d k in
      subst (AreHeard keys) (sym u) (
        subst (AreHeard keys) (two_left mid last z y1 x2 y2 f) (h keys (subst (AreHeard keys) (two_left asked mid x y x1 y1 e) a.0)),
        subst (AreHeard keys) (two_right asked mid x y x1 y1 e ∙ two_right mid last z y1 x2 y2 f) a.1,
      )

  pub right_heard : Two mid x1 z ≡ Two last x2 y2 → ((keys : List ConnEnd) → AreHeard keys y1 → AreHeard keys z) → (keys : List ConnEnd) → AreHeard keys s → AreHeard keys t
  right_heard f h keys k =
      let a = subst (AreHeard keys) d k in
      subst (AreHeard keys) (sym u) (
        subst (AreHeard keys) (two_left asked mid x y x1 y1 e ∙ two_left mid last x1 z x2 y2 f) a.0,
        subst (AreHeard keys) (two_right mid last x1 z x2 y2 f) (h keys (subst (AreHeard keys) (two_right asked mid x y x1 y1 e) a.1)),
      )

-- ---- halts

pub halts_as : (s t x y : State) (log now : List PortEntry) (result : Result Sent TreeNo) → s ≡ x → t ≡ y → HaltsAny x y log now result → HaltsAny s t log now result
halts_as s t x y log now result d e f = subst (λ u. HaltsAny s u log now result) (sym e) (subst (λ u. HaltsAny u y log now result) (sym d) f)

module _ (s t : State) (j mid : Joining) (x y w w1 y1 z : State) (d : s ≡ Two j x y) (e : Two j w y ≡ Two mid w1 y1) (u : t ≡ Two mid w1 z) where
  pub both_halt : (log between now : List PortEntry) (result : Result Sent TreeNo) → HaltsAny x w log between (Ok Done) → HaltsAny y1 z between now result → HaltsAny s t log now result
  both_halt log between now result f h =
      halts_as s t (Two j x y) (Two j w z) log now result d (u ∙ sym (ap (λ k. Two k w z) (two_join j mid w y w1 y1 e) ∙ ap (λ k. Two mid k z) (two_left j mid w y w1 y1 e)))
      (right_halts j x y w z log between now result f (halts_as y z y1 z between now result (two_right j mid w y w1 y1 e) refl h))

  pub both_heard : ((keys : List ConnEnd) → AreHeard keys x → AreHeard keys w) → ((keys : List ConnEnd) → AreHeard keys y1 → AreHeard keys z) → (keys : List ConnEnd) → AreHeard keys s → AreHeard keys t
  both_heard f h keys k =
      let a = subst (AreHeard keys) d k in
      subst (AreHeard keys) (sym u) (
        subst (AreHeard keys) (two_left j mid w y w1 y1 e) (f keys a.0),
        h keys (subst (AreHeard keys) (two_right j mid w y w1 y1 e) a.1),
      )
