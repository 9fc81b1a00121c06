-- What holds of the run of a slice by what the slice holds, and how it goes on with a step.
use Rattle.std.proofs.Common.{◌≡◌, ℕ, Bool, true, false, ◌&&◌, ◌||◌, not, List, [], ◌∷◌, ◌++◌, Option, Some, None, refl, sym, ap, ◌∙◌, subst, inl, inr, append-nil, append_assoc, cond, nat_lt}
use Rattle.std.specs.Prelude.{Contains}
use Rattle.std.specs.List.{list_all, AllByRecursion}
use Rattle.ic_base.specs.declared.datagram.Parcel.{Parcel}
use Rattle.ic_row.specs.Spelling.{IsRow}
use Rattle.ic_motion.proofs.Lists.{all_append, flat_push}
use Rattle.ic_chunk.proofs.Lists.{all_front}
use Rattle.pl_ops.specs.Rows.{Line}
use Rattle.pl_ops.specs.Giving.{IsOver}
use Rattle.pl_plan.specs.Motions.{Link, gang_of}
use Rattle.pl_runs.specs.Steps.{Step, stopped_on, parcels_of, parcels_in, takes_of}
use Rattle.pl_runs.specs.Logs.{IsRead}
use Rattle.pl_runs.specs.Slices.{Worker, sending, receiving, output_of}
use Rattle.pl_runs.specs.Wanting.{has_its_limit}
use Rattle.pl_runs.specs.Runs.{Course, LetsOut, IsOver as IsDone, may_halt, is_root, all_stopped as stopped_all, is_sent, is_heard}
use Rattle.gd_answer.specs.Clean.{TakesFromSenders, PutsRows}
use Rattle.ic_motion.specs.Pulling.{AtMostOne}
use Rattle.ic_motion.specs.Sending.{Sender, Sends}
use Rattle.ex_tree.specs.Parts.{Part, out}
use Rattle.ex_tree.specs.Running.{State, Runs}
use Rattle.ex_tree.specs.Halting.{AllHeard, heard_from}
use Rattle.ex_tree.proofs.Fronts.{Begins}
use Rattle.ex_tree.proofs.Frames.{runs_begin, no_parcels}
use Rattle.ex_slice.specs.declared.stage.Stage.TheVariants.{Refused}
use Rattle.ex_slice.specs.declared.stage.SliceNo.{SliceNo}
use Rattle.ex_slice.specs.declared.way.Way.{Way}
use Rattle.ex_slice.specs.declared.way.Way.TheVariants as ways
use Rattle.ex_plan.specs.Workers.{Serves}
use Rattle.ex_slice.specs.Serving.{FacesOut, LetsAllOut, Faces}
use Rattle.ex_slice.specs.Working.{let_out_by, Working, Passed, Handles, Inside, IsSent, HoldsAt, Works}
use Rattle.ex_slice.proofs.Lists.{every_more, most_map, all_from, all_none, all_true}
use Rattle.ex_slice.proofs.Links.{clean_here, all_stopped_here, over_here, stopped_sent}
use Rattle.ex_slice.proofs.Asks.{not_both}
use Rattle.ex_slice.proofs.Points.{Fits, run_more}
use Rattle.ex_slice.proofs.Limits.{heard_or_limit}

or_more : (a b : Bool) → b ≡ true → (a || b) ≡ true
or_more true b e = refl
or_more false b e = e

-- ---- the rows that were handed over are the first of those that were given

pub hand_front : (m : Sender) (hand : Option Line) (steps : List Step) (given : List Line) (p : Passed m hand steps given) → Begins p.rows given
hand_front m None steps given p = ([], p.given_are ∙ sym (append-nil p.rows))
hand_front m (Some row) steps given p = by (nat_lt 0 m.work.end) refl
  where
    by : (b : Bool) → (nat_lt 0 m.work.end) ≡ b → Begins p.rows given
    by true e = ([], p.given_are ∙ ap (λ x. cond x p.rows (p.rows ++ row ∷ [])) e ∙ sym (append-nil p.rows))
    by false e = (row ∷ [], p.given_are ∙ ap (λ x. cond x p.rows (p.rows ++ row ∷ [])) e)

-- ---- what follows from what it gave

-- a front of what was given was handed to the sending end
pub record HandedFront (m : Sender) (steps : List Step) (given : List Line) : Type 0 where
  pub rows : List Line
  pub sends : Sends m steps rows
  pub front : Begins rows given
  pub are_rows : AllByRecursion IsRow given

abbrev pub Handled : Way → List Step → (given let_out : List Line) → Type 0
Handled (ways.Lets rows) steps given let_out = let_out ≡ given
Handled (ways.Passes m hand) steps given let_out = (let_out ≡ []) × HandedFront m steps given

pub handled_so : (way : Way) (steps : List Step) (given let_out : List Line) → Handles way steps given let_out → Handled way steps given let_out
handled_so (ways.Lets rows) steps given let_out h = h.1
handled_so (ways.Passes m hand) steps given let_out h = (h.0, record { rows = h.1.rows; sends = h.1.sends; front = hand_front m hand steps given h.1; are_rows = h.1.are_rows })

pub record Gone (w : Worker) (part : Part) (tree : State) (way : Way) (c : Course) (given : List Line) : Type 0 where
  pub serves : Serves w part
  pub faces : Faces w way
  pub runs : Runs part tree c.steps given
  pub undone : c.done ≡ false
  pub handled : Handled way c.steps given c.let_out

pub gone_so : (w : Worker) (part : Part) (tree : State) (way : Way) (c : Course) (given : List Line) → Inside w part tree way c given → Gone w part tree way c given
gone_so w part tree way c given i = record { serves = i.serves; faces = i.faces; runs = i.runs; undone = i.undone; handled = handled_so way c.steps given c.let_out i.handles }

module _ (w : Worker) (part : Part) (tree : State) (way : Way) (c : Course) (given : List Line) (i : Gone w part tree way c given) where
  front : Begins given (out part c.steps).rows
  front = runs_begin part tree c.steps given i.runs

  output : out part c.steps ≡ output_of w c.steps
  output = i.serves.gives c.steps

  root_lets : (l : LetsAllOut w) → c.let_out ≡ given → LetsOut w c
  root_lets l same = record {
    front = λ root. (front.0, ap (λ k. k.rows) (sym output) ∙ front.1 ∙ ap (λ k. k ++ front.0) (sym same));
    all = λ root done. absurd (not_both c.done done i.undone);
    none = λ other. absurd (not_both (is_root w) l.root other);
  }

  out_lets : is_root w ≡ false → c.let_out ≡ [] → LetsOut w c
  out_lets other none = record {
    front = λ root. absurd (not_both (is_root w) root other);
    all = λ root done. absurd (not_both c.done done i.undone);
    none = λ _. none;
  }

  pub lets_out : LetsOut w c
  lets_out = by way i.faces i.handled
    where
      by : (way : Way) → Faces w way → Handled way c.steps given c.let_out → LetsOut w c
      by (ways.Lets rows) f h = root_lets f h
      by (ways.Passes m hand) f h = out_lets f.not_root h.0

  clean_out : (m : Sender) → FacesOut w m → HandedFront m c.steps given → AllByRecursion (PutsRows w c.steps) (sending w)
  clean_out m f p = all_from (PutsRows w c.steps) (sending w) (λ l has n less.
      clean_here w m l c.steps p.rows f.packet (f.links l has) p.sends are (output_of w c.steps).rows (subst (λ k. Begins p.rows k.rows) output own) n less)
    where
      own : Begins p.rows (out part c.steps).rows
      own = (p.front.0 ++ front.0, front.1 ∙ ap (λ k. k ++ front.0) p.front.1 ∙ append_assoc p.rows p.front.0 front.0)

      are : AllByRecursion IsRow p.rows
      are = all_front IsRow p.rows p.front.0 (subst (AllByRecursion IsRow) p.front.1 p.are_rows)

  pub clean_rows : AllByRecursion (PutsRows w c.steps) (sending w)
  clean_rows = by way i.faces i.handled
    where
      by : (way : Way) → Faces w way → Handled way c.steps given c.let_out → AllByRecursion (PutsRows w c.steps) (sending w)
      by (ways.Lets rows) f h = all_none (PutsRows w c.steps) (sending w) f.none
      by (ways.Passes m hand) f h = clean_out m f h.1

  -- ---- once nothing more is to be sent

  module _ (sent : IsSent part way c.steps given) where
    pub all_sent : list_all (is_sent c.steps) (sending w) ≡ true
    all_sent = by way i.faces i.handled sent
      where
        by : (way : Way) → Faces w way → Handled way c.steps given c.let_out → IsSent part way c.steps given → list_all (is_sent c.steps) (sending w) ≡ true
        by (ways.Lets rows) f h o = ap (list_all (is_sent c.steps)) f.none
        by (ways.Passes m hand) f h (inl stopped) = all_true (is_sent c.steps) (sending w) (λ l has. stopped_sent w m l c.steps h.1.rows f.packet (f.links l has) h.1.sends stopped)
        by (ways.Passes m hand) f h (inr over) = all_true (is_sent c.steps) (sending w) (λ l has. over_here w m l c.steps h.1.rows f.packet (f.links l has) h.1.sends over.0)

    -- a sender from which more may come may be halted
    pub halts_so : (AllHeard part c.steps → ⊥) → may_halt w c.steps ≡ true
    halts_so open_ = by way i.faces i.handled sent
      where
        ended : IsOver (out part c.steps) given → may_halt w c.steps ≡ true
        ended o = elim (heard_or_limit part c.steps o.ended) [
          | inl full ↦ ap (λ b. b || (not (is_root w) && stopped_all w c.steps)) (sym (i.serves.satisfied c.steps) ∙ full)
          | inr all ↦ absurd (open_ all)
        ]

        by : (way : Way) → Faces w way → Handled way c.steps given c.let_out → IsSent part way c.steps given → may_halt w c.steps ≡ true
        by (ways.Lets rows) f h o = ended o
        by (ways.Passes m hand) f h (inr over) = ended over.1
        by (ways.Passes m hand) f h (inl stopped) =
            let all : stopped_all w c.steps ≡ true = all_true (λ (l : Link). stopped_on l.motion l.to c.steps) (sending w) (λ l has. all_stopped_here w m l c.steps h.1.rows f.packet (f.links l has) h.1.sends stopped) in
            or_more (has_its_limit w c.steps) (not (is_root w) && stopped_all w c.steps) (ap (λ b. not b && stopped_all w c.steps) f.not_root ∙ all)

    -- with all heard it is over
    pub over_so : AllHeard part c.steps → IsDone w c.steps
    over_so all = record {
      sent = all_sent;
      heard = all_true (is_heard c.steps) (receiving w) (λ l has. let k = i.serves.hears l has in subst (λ n. heard_from n l.from c.steps ≡ true) k.2 (all k.0 k.1 l.from k.3));
      ended = λ root. by root way i.faces sent;
    }
      where
        by : is_root w ≡ true → (way : Way) → Faces w way → IsSent part way c.steps given → (output_of w c.steps).ended ≡ true
        by root (ways.Lets rows) f o = ap (λ k. k.ended) (sym output) ∙ o.ended
        by root (ways.Passes m hand) f o = absurd (not_both (is_root w) root f.not_root)

    -- and the root has let out all
    pub done_lets : LetsOut w (record { steps = c.steps; let_out = c.let_out; done = true })
    done_lets = by way i.faces i.handled sent
      where
        by : (way : Way) → Faces w way → Handled way c.steps given c.let_out → IsSent part way c.steps given → LetsOut w (record { steps = c.steps; let_out = c.let_out; done = true })
        by (ways.Lets rows) f h o =
            let l = root_lets f h in
            record { front = l.front; all = λ root done. ap (λ k. k.rows) (sym output) ∙ sym o.rows ∙ sym h; none = l.none }
        by (ways.Passes m hand) f h o = let l = out_lets f.not_root h.0 in record { front = l.front; all = λ root done. absurd (not_both (is_root w) root f.not_root); none = l.none }

-- what slice 0 holds is what it let out, and another slice lets nothing out
pub let_out_so : (way : Way) (steps : List Step) (given let_out : List Line) → Handles way steps given let_out → let_out_by way ≡ let_out
let_out_so (ways.Lets rows) steps given let_out h = h.0 ∙ sym h.1
let_out_so (ways.Passes m hand) steps given let_out h = sym h.0

-- ---- how it goes on

-- the parcel of each new step is from a sender
pub from_more : (w : Worker) (steps more : List Step) → TakesFromSenders w steps
    → AtMostOne (λ s. (motion : ℕ) → AllByRecursion (λ (p : Parcel). Contains (gang_of w.site.schemas w.site.segments w.tree motion) p.from) (parcels_in motion s)) more → TakesFromSenders w (steps ++ more)
from_more w steps [] from h = subst (TakesFromSenders w) (sym (append-nil steps)) from
from_more w steps (s ∷ []) from h = λ motion.
    let P : Parcel → Type 0 = λ p. Contains (gang_of w.site.schemas w.site.segments w.tree motion) p.from in
    subst (AllByRecursion P) (sym (flat_push (parcels_in motion) steps s)) (all_append P (parcels_of motion steps) (parcels_in motion s) (from motion) (h motion))
from_more w steps (s ∷ t ∷ more) from h = absurd h

abbrev pub FromSenders : Worker → Step → Type 0
FromSenders w s = (motion : ℕ) → AllByRecursion (λ (p : Parcel). Contains (gang_of w.site.schemas w.site.segments w.tree motion) p.from) (parcels_in motion s)

pub from_none : (w : Worker) (s : Step) → ((motion : ℕ) → takes_of motion s.entry.ask ≡ false) → FromSenders w s
from_none w s none motion = let P : Parcel → Type 0 = λ p. Contains (gang_of w.site.schemas w.site.segments w.tree motion) p.from in subst (AllByRecursion P) (sym (no_parcels motion s (none motion))) tt

-- one new step at most, with all that is asked of it
pub record Adds (w : Worker) (steps : List Step) (s : Step) : Type 0 where
  pub fits : Fits w steps s
  pub read : IsRead steps s
  pub from : FromSenders w s

pub works_on : (w : Worker) (part : Part) (old new : Working) (c : Course) (more : List Step) (rows given : List Line) → Works w part old c → AtMostOne (Adds w c.steps) more
    → (i : Gone w part new.tree new.way (record { steps = c.steps ++ more; let_out = c.let_out ++ rows; done = false }) given)
    → HoldsAt w part new.stage new.tree new.way (record { steps = c.steps ++ more; let_out = c.let_out ++ rows; done = false })
    → Works w part new (record { steps = c.steps ++ more; let_out = c.let_out ++ rows; done = false })
works_on w part old new c more rows given works adds i holds =
    let next : Course = record { steps = c.steps ++ more; let_out = c.let_out ++ rows; done = false } in
    record {
      run = run_more w c more (c.let_out ++ rows) false works.run (most_map (Adds w c.steps) (Fits w c.steps) more (λ s h. h.fits) adds) (lets_out w part new.tree new.way next given i) (λ e. absurd (cc));
      read = every_more IsRead c.steps more works.read (most_map (Adds w c.steps) (IsRead c.steps) more (λ s h. h.read) adds);
      clean = record {
        from = from_more w c.steps more works.clean.from (most_map (Adds w c.steps) (FromSenders w) more (λ s h. h.from) adds);
        rows = clean_rows w part new.tree new.way next given i;
      };
      holds = holds;
    }

-- refused after a call that got an answer, which is the last one
pub works_refused : (w : Worker) (part : Part) (old : Working) (c : Course) (no_ : SliceNo) (tree : State) (way : Way) (more : List Step) (given : List Line) → Works w part old c → c.done ≡ false → AtMostOne (Adds w c.steps) more
    → Gone w part tree way (record { steps = c.steps ++ more; let_out = c.let_out; done = c.done }) given → Works w part (record { stage = Refused no_; tree = tree; way = way }) (record { steps = c.steps ++ more; let_out = c.let_out; done = c.done })
works_refused w part old c no_ tree way more given works undone adds i =
    let next : Course = record { steps = c.steps ++ more; let_out = c.let_out; done = c.done } in
    record {
      run = run_more w c more c.let_out c.done works.run (most_map (Adds w c.steps) (Fits w c.steps) more (λ s h. h.fits) adds) (lets_out w part tree way next given i) (λ e. absurd (not_both c.done e undone));
      read = every_more IsRead c.steps more works.read (most_map (Adds w c.steps) (IsRead c.steps) more (λ s h. h.read) adds);
      clean = record {
        from = from_more w c.steps more works.clean.from (most_map (Adds w c.steps) (FromSenders w) more (λ s h. h.from) adds);
        rows = clean_rows w part tree way next given i;
      };
      holds = tt;
    }
