-- What one more step adds to what is read of a motion.
use Rattle.std.proofs.Common.{◌≡◌, ℕ, ℤ, List, [], ◌∷◌, ◌++◌, Bool, true, false, ◌||◌, ◌&&◌, ◌==◌, cond, refl, ap, ◌∙◌, append-nil}
use Rattle.std.specs.List.{flat_map, list_any}
use Rattle.std.specs.Ordering.{int_eq}
use Rattle.std.proofs.lemmas.Bool.Decides.{Decides-eqb}
use Rattle.ic_base.specs.declared.datagram.Parcel.{Parcel}
use Rattle.ic_base.specs.declared.port.PortAsk.{PortAsk}
use Rattle.ic_base.specs.declared.port.PortAsk.TheVariants.{Put, Finish, Take, TakeFrom, Halt}
use Rattle.ic_base.specs.declared.port.PortReply.TheVariants.{Gave}
use Rattle.pl_ops.specs.Rows.{Line}
use Rattle.pl_mean.specs.Outputs.{Came, rows_in, came_from}
use Rattle.pl_runs.specs.Steps.{Step, input_of, parcels_of, parcels_in, parcels_by, takes_of, came_in, came_by, ends_stream, ended_by, is_ended, is_take, is_take_from, halted_from, halts_from}
use Rattle.pl_runs.specs.Logs.{payloads_from, payload_from}
use Rattle.ic_motion.specs.Hearing.{has_ended}
use Rattle.ic_motion.proofs.Lists.{or_none, mix, int_same, int_differ, any_append, any_push, flat_push, map_append}
use Rattle.std.proofs.lemmas.List.Concat.{flat_map-append}

-- ---- readings of a step

-- whether the step says that nothing more comes from the sender
unfoldable pub ends_in : ℕ → Step → ℤ → Bool
ends_in motion s sender =
    list_any (ends_stream sender) (parcels_in motion s) || ((is_ended s.entry.reply && is_take motion s.entry.ask) || (is_ended s.entry.reply && is_take_from motion sender s.entry.ask))

pub parcels_more : (motion : ℕ) (steps : List Step) (s : Step) → parcels_of motion (steps ++ s ∷ []) ≡ parcels_of motion steps ++ parcels_in motion s
parcels_more motion steps s = flat_push (parcels_in motion) steps s

pub took_more : (motion : ℕ) (steps : List Step) (s : Step) → (input_of motion (steps ++ s ∷ [])).took ≡ (input_of motion steps).took ++ came_in motion s
took_more motion steps s = flat_push (came_in motion) steps s

pub payloads_more : (sender : ℤ) (xs ys : List Parcel) → payloads_from sender (xs ++ ys) ≡ payloads_from sender xs ++ payloads_from sender ys
payloads_more sender xs ys = flat_map-append (payload_from sender) xs ys

pub came_more : (sender : ℤ) (xs ys : List Came) → came_from sender (xs ++ ys) ≡ came_from sender xs ++ came_from sender ys
came_more sender [] ys = refl
came_more sender (c ∷ xs) ys = by (int_eq c.from sender) (came_more sender xs ys)
  where
    by : (b : Bool) → came_from sender (xs ++ ys) ≡ came_from sender xs ++ came_from sender ys
        → cond b (c.row ∷ came_from sender (xs ++ ys)) (came_from sender (xs ++ ys)) ≡ cond b (c.row ∷ came_from sender xs) (came_from sender xs) ++ came_from sender ys
    by true same = ap (λ l. c.row ∷ l) same
    by false same = same

pub rows_more : (xs ys : List Came) → rows_in (xs ++ ys) ≡ rows_in xs ++ rows_in ys
rows_more xs ys = map_append (λ (c : Came). c.row) xs ys

pub ended_more : (motion : ℕ) (steps : List Step) (s : Step) (sender : ℤ) → has_ended motion (steps ++ s ∷ []) sender ≡ (has_ended motion steps sender || ends_in motion s sender)
unfolding ends_in
ended_more motion steps s sender =
    let whole = ap (list_any (ends_stream sender)) (parcels_more motion steps s) ∙ any_append (ends_stream sender) (parcels_of motion steps) (parcels_in motion s) in
    let any = any_push (λ (x : Step). is_ended x.entry.reply && is_take motion x.entry.ask) steps s in
    let one = any_push (λ (x : Step). is_ended x.entry.reply && is_take_from motion sender x.entry.ask) steps s in
    ap (λ b. b || (ended_by (is_take motion) (steps ++ s ∷ []) || ended_by (is_take_from motion sender) (steps ++ s ∷ []))) whole
    ∙ ap (λ b. (list_any (ends_stream sender) (parcels_of motion steps) || list_any (ends_stream sender) (parcels_in motion s)) || (b || ended_by (is_take_from motion sender) (steps ++ s ∷ []))) any
    ∙ ap (λ b. (list_any (ends_stream sender) (parcels_of motion steps) || list_any (ends_stream sender) (parcels_in motion s)) || ((ended_by (is_take motion) steps || (is_ended s.entry.reply && is_take motion s.entry.ask)) || b)) one
    ∙ mix (list_any (ends_stream sender) (parcels_of motion steps)) (list_any (ends_stream sender) (parcels_in motion s)) (ended_by (is_take motion) steps) (is_ended s.entry.reply && is_take motion s.entry.ask)
    (ended_by (is_take_from motion sender) steps) (is_ended s.entry.reply && is_take_from motion sender s.entry.ask)

pub halted_more : (motion : ℕ) (sender : ℤ) (steps : List Step) (s : Step) → halted_from motion sender (steps ++ s ∷ []) ≡ (halted_from motion sender steps || halts_from motion sender s.entry.ask)
halted_more motion sender steps s = any_push (λ (x : Step). halts_from motion sender x.entry.ask) steps s

-- ---- a step that took a parcel

pub record TookOne (motion : ℕ) (s : Step) (p : Parcel) (rows : List Line) : Type 0 where
  pub takes : takes_of motion s.entry.ask ≡ true
  pub gave : s.entry.reply ≡ Gave p
  pub rows_are : s.rows ≡ rows

pub eqb_same : (n : ℕ) → (n == n) ≡ true
eqb_same n = (Decides-eqb n n).1 refl

pub parcels_here : (motion : ℕ) (s : Step) (p : Parcel) (rows : List Line) → TookOne motion s p rows → parcels_in motion s ≡ p ∷ []
parcels_here motion s p rows t = ap (λ b. cond b (parcels_by s.entry.reply) []) t.takes ∙ ap parcels_by t.gave

came_here : (motion : ℕ) (s : Step) (p : Parcel) (rows : List Line) → TookOne motion s p rows → came_in motion s ≡ came_by rows p
came_here motion s p rows t =
    ap (flat_map (came_by s.rows)) (parcels_here motion s p rows t) ∙ append-nil (came_by s.rows p) ∙ ap (λ r. came_by r p) t.rows_are

pub rows_came : (rows : List Line) (p : Parcel) → rows_in (came_by rows p) ≡ rows
rows_came [] p = refl
rows_came (row ∷ rows) p = ap (λ l. row ∷ l) (rows_came rows p)

pub rows_here : (motion : ℕ) (s : Step) (p : Parcel) (rows : List Line) → TookOne motion s p rows → rows_in (came_in motion s) ≡ rows
rows_here motion s p rows t = ap rows_in (came_here motion s p rows t) ∙ rows_came rows p

came_same : (sender : ℤ) (rows : List Line) (p : Parcel) → int_eq p.from sender ≡ true → came_from sender (came_by rows p) ≡ rows
came_same sender [] p is = refl
came_same sender (row ∷ rows) p is = ap (λ b. cond b (row ∷ came_from sender (came_by rows p)) (came_from sender (came_by rows p))) is ∙ ap (λ l. row ∷ l) (came_same sender rows p is)

came_other : (sender : ℤ) (rows : List Line) (p : Parcel) → int_eq p.from sender ≡ false → came_from sender (came_by rows p) ≡ []
came_other sender [] p is = refl
came_other sender (row ∷ rows) p is = ap (λ b. cond b (row ∷ came_from sender (came_by rows p)) (came_from sender (came_by rows p))) is ∙ came_other sender rows p is

-- of its own sender
pub payloads_own : (motion : ℕ) (s : Step) (p : Parcel) (rows : List Line) (sender : ℤ) → TookOne motion s p rows → p.from ≡ sender → payloads_from sender (parcels_in motion s) ≡ p.payload ∷ []
payloads_own motion s p rows sender t is =
    ap (payloads_from sender) (parcels_here motion s p rows t) ∙ append-nil (payload_from sender p) ∙ ap (λ b. cond b (p.payload ∷ []) []) (int_same p.from sender is)

pub came_own : (motion : ℕ) (s : Step) (p : Parcel) (rows : List Line) (sender : ℤ) → TookOne motion s p rows → p.from ≡ sender → came_from sender (came_in motion s) ≡ rows
came_own motion s p rows sender t is = ap (came_from sender) (came_here motion s p rows t) ∙ came_same sender rows p (int_same p.from sender is)

no_end_in : (motion : ℕ) (s : Step) (p : Parcel) (sender : ℤ) → s.entry.reply ≡ Gave p → ((is_ended s.entry.reply && is_take motion s.entry.ask) || (is_ended s.entry.reply && is_take_from motion sender s.entry.ask)) ≡ false
no_end_in motion s p sender is = ap (λ r. (is_ended r && is_take motion s.entry.ask) || (is_ended r && is_take_from motion sender s.entry.ask)) is

and_true : (a : Bool) → (a && true) ≡ a
and_true true = refl
and_true false = refl

and_false : (a : Bool) → (a && false) ≡ false
and_false true = refl
and_false false = refl

pub ends_own : (motion : ℕ) (s : Step) (p : Parcel) (rows : List Line) (sender : ℤ) → TookOne motion s p rows → p.from ≡ sender → ends_in motion s sender ≡ p.last
unfolding ends_in
ends_own motion s p rows sender t is =
    ap (λ b. list_any (ends_stream sender) (parcels_in motion s) || b) (no_end_in motion s p sender t.gave) ∙ or_none (list_any (ends_stream sender) (parcels_in motion s))
    ∙ ap (list_any (ends_stream sender)) (parcels_here motion s p rows t) ∙ or_none (ends_stream sender p) ∙ ap (λ b. p.last && b) (int_same p.from sender is) ∙ and_true p.last

-- of another sender
pub payloads_else : (motion : ℕ) (s : Step) (p : Parcel) (rows : List Line) (sender : ℤ) → TookOne motion s p rows → (p.from ≡ sender → ⊥) → payloads_from sender (parcels_in motion s) ≡ []
payloads_else motion s p rows sender t ne =
    ap (payloads_from sender) (parcels_here motion s p rows t) ∙ append-nil (payload_from sender p) ∙ ap (λ b. cond b (p.payload ∷ []) []) (int_differ p.from sender ne)

pub came_else : (motion : ℕ) (s : Step) (p : Parcel) (rows : List Line) (sender : ℤ) → TookOne motion s p rows → (p.from ≡ sender → ⊥) → came_from sender (came_in motion s) ≡ []
came_else motion s p rows sender t ne = ap (came_from sender) (came_here motion s p rows t) ∙ came_other sender rows p (int_differ p.from sender ne)

pub ends_else : (motion : ℕ) (s : Step) (p : Parcel) (rows : List Line) (sender : ℤ) → TookOne motion s p rows → (p.from ≡ sender → ⊥) → ends_in motion s sender ≡ false
unfolding ends_in
ends_else motion s p rows sender t ne =
    ap (λ b. list_any (ends_stream sender) (parcels_in motion s) || b) (no_end_in motion s p sender t.gave) ∙ or_none (list_any (ends_stream sender) (parcels_in motion s))
    ∙ ap (list_any (ends_stream sender)) (parcels_here motion s p rows t) ∙ or_none (ends_stream sender p) ∙ ap (λ b. p.last && b) (int_differ p.from sender ne) ∙ and_false p.last

-- a call that takes doesn't halt
pub no_halt : (motion : ℕ) (sender : ℤ) (ask : PortAsk) → takes_of motion ask ≡ true → halts_from motion sender ask ≡ false
no_halt motion sender (Take m) t = refl
no_halt motion sender (TakeFrom m a) t = refl
no_halt motion sender (Put m to chunk) t = cc
no_halt motion sender (Finish m to) t = cc
no_halt motion sender (Halt m a) t = cc
