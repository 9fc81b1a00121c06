-- A slice before its first turn.
use Rattle.std.proofs.Common.{◌≡◌, ℕ, zero, suc, ◌≤◌, ◌==◌, ℤ, false, List, [], ◌∷◌, map, None, refl, sym, ap, ◌∙◌, subst, inl, inr, arith}
use Rattle.std.specs.Prelude.{Contains, slice_get}
use Rattle.std.proofs.lemmas.List.{length-map}
use Rattle.std.proofs.lemmas.Bool.Decides.{nat_tests}
use Rattle.ic_base.specs.declared.keys.ConnEnd.{ConnEnd}
use Rattle.pl_ops.specs.Rows.{Line}
use Rattle.pl_ops.specs.Routing.{routed}
use Rattle.pl_ops.specs.declared.loaded.Spread.{Spread}
use Rattle.pl_plan.specs.declared.sound.Judged.{Judged}
use Rattle.pl_plan.specs.Motions.{Link}
use Rattle.pl_runs.specs.Steps.{Step}
use Rattle.pl_runs.specs.Logs.{IsRead, ends_of}
use Rattle.pl_runs.specs.Slices.{Worker, sending}
use Rattle.pl_runs.specs.Runs.{Every, PutsNext, FinishesLast, HaltsLate, OnlyOnce, TakesWanted}
use Rattle.ic_motion.specs.declared.answers.MotionKind.{MotionKind}
use Rattle.ic_motion.specs.Pulling.{Listens}
use Rattle.ic_motion.specs.Sending.{Sender, Sends, SendsToEach, receivers_of, fresh_target, fresh_sender, route_by}
use Rattle.ic_motion.specs.Sent.{IsUnsent}
use Rattle.ex_tree.specs.Parts.{Source, Part, Has}
use Rattle.ex_tree.specs.Running.{State, Scans, Ears, One, Two, AreHeard, Runs, source_of}
use Rattle.ex_plan.specs.Workers.{Serves, worker_of, gang_in, AreUnheard}
use Rattle.ex_plan.specs.Sending.{AreReceivers, RootSendsNothing}
use Rattle.ex_slice.specs.declared.stage.Stage.TheVariants as stages
use Rattle.ex_slice.specs.declared.way.Way.{Way}
use Rattle.ex_slice.specs.declared.way.Way.TheVariants as ways
use Rattle.ex_slice.specs.Serving.{IsFaced, LetsAllOut, FacesOut}
use Rattle.ex_slice.specs.Working.{Inside, IsOpen, Works, IsFresh, Listening, fresh_course}
use Rattle.ex_slice.specs.Acting.{at_stage}
use Rattle.ex_slice.proofs.Holding.{gone_so, lets_out, clean_rows}

every_none : (P : List Step → Step → Type 0) → Every P []
every_none P [] s after e = absurd (cc)
every_none P (b ∷ before) s after e = absurd (cc)

fresh_works : (w : Worker) (part : Part) (tree : State) (way : Way) → IsOpen way → Inside w part tree way fresh_course [] → Works w part (at_stage stages.Giving tree way) fresh_course
fresh_works w part tree way open_ i =
    let g = gone_so w part tree way fresh_course [] i in
    record {
      run = record {
        puts = every_none (PutsNext w);
        finishes = every_none (FinishesLast w);
        halts = every_none (HaltsLate w);
        lets_out = lets_out w part tree way fresh_course [] g;
        over = λ e. absurd (cc);
        once = every_none OnlyOnce;
        takes = every_none (TakesWanted w);
      };
      read = every_none IsRead;
      clean = record { from = λ motion. tt; rows = clean_rows w part tree way fresh_course [] g };
      holds = ([], i, open_);
    }

pub root_begins : (w : Worker) (part : Part) (tree : State) → Serves w part → LetsAllOut w → Runs part tree [] [] → Works w part (at_stage stages.Giving tree (ways.Lets [])) fresh_course
root_begins w part tree serves lets runs = fresh_works w part tree (ways.Lets []) tt (record { serves = serves; faces = lets; runs = runs; undone = refl; handles = (refl, refl) })

pub sending_begins : (w : Worker) (part : Part) (tree : State) (m : Sender) → Serves w part → FacesOut w m → IsFresh m → Runs part tree [] [] → Works w part (at_stage stages.Giving tree (ways.Passes m None)) fresh_course
sending_begins w part tree m serves faces fresh runs =
    fresh_works w part tree (ways.Passes m None) (fresh.open_, fresh.going)
    (record { serves = serves; faces = faces; runs = runs; undone = refl; handles = (refl, record { rows = []; sends = fresh.sends; given_are = refl; idle = λ e. fresh.idle; are_rows = tt; hand_is_row = tt }) })

-- ---- from a plan

-- the part's motions are heard if the tree's are
pub listens_all : (keys : List ConnEnd) (part : Part) (tree : State) (steps : List Step) (given : List Line) → AreHeard keys tree → Runs part tree steps given → Listening keys part
listens_all keys part (Scans scan) steps given heard (rows, is, g) source has = absurd (subst (λ k. Has k source) is has)
listens_all keys part (Ears m) steps given heard (is, h) source has = let same : source_of m ≡ source = subst (λ k. Has k source) is has in subst (λ (k : Source). Listens keys k.end.motion k.senders) same heard
listens_all keys part (One op x) steps given heard (p, c, is, r) source has = listens_all keys c x steps r.given.rows heard r.child.runs source (subst (λ k. Has k source) is has)
listens_all keys part (Two j x y) steps given heard (on, a, b, is, q) source has = elim (subst (λ k. Has k source) is has) [
  | inl k ↦ listens_all keys a x steps q.from_left.rows heard.0 q.left_child.runs source k
  | inr k ↦ listens_all keys b y steps q.from_right.rows heard.1 q.right_child.runs source k
]

-- nothing was taken yet
pub unheard_none : (part : Part) → AreUnheard part []
unheard_none part source has = (refl, refl, λ a. (refl, refl))

fresh_receivers : (receivers : List ℤ) → receivers_of (map fresh_target receivers) ≡ receivers
fresh_receivers [] = refl
fresh_receivers (to ∷ receivers) = ap (λ l. to ∷ l) (fresh_receivers receivers)

-- slice 0 sends nothing
pub root_faces : (j : Judged) (tables : List Spread) (slice : ℕ) (at : ℤ) → slice ≡ 0 → RootSendsNothing → LetsAllOut (worker_of j tables slice at)
root_faces j tables slice at e none = record { root = ap (λ k. k == 0) e; none = none (worker_of j tables slice at) e }

-- another slice's sending end serves its connections
module _ (j : Judged) (tables : List Spread) (slice : ℕ) (at : ℤ) (kind : MotionKind) (receivers : List ℤ) (least : 1 ≤ slice) (here : Contains (gang_in j slice) at) (are : AreReceivers j slice kind receivers) where
  abbrev fresh : Sender
  fresh = fresh_sender slice kind j.settings.packet receivers

  fresh_faced : (l : Link) → Contains (sending (worker_of j tables slice at)) l → IsFaced (worker_of j tables slice at) fresh l
  fresh_faced l has =
      let f = are.facing tables at here l has in
      record {
        motion = f.motion;
        place = f.place;
        at = ap (λ rs. slice_get rs f.place) (fresh_receivers receivers) ∙ f.at;
        routes = λ rows. are.routes tables f.place l.to rows f.at ∙ ap (λ n. routed (route_by kind) n f.place rows) (sym (length-map receivers fresh_target));
      }

  fresh_out : FacesOut (worker_of j tables slice at) fresh
  fresh_out = record { not_root = not_zero slice least; packet = refl; links = fresh_faced }
    where
      not_zero : (n : ℕ) → 1 ≤ n → (n == 0) ≡ false
      not_zero n h = grind (arith, nat_tests)

  pub out_faces : (m : Sender) → m ≡ fresh → FacesOut (worker_of j tables slice at) m
  out_faces m is = subst (FacesOut (worker_of j tables slice at)) (sym is) fresh_out

  pub out_fresh : (m : Sender) → m ≡ fresh → ((steps : List Step) → IsUnsent slice steps → Sends m steps []) → IsFresh m
  out_fresh m is sends = record { sends = sends [] (λ to. (refl, refl, refl)); idle = ap (λ (k : Sender). k.work.end) is; open_ = ap (λ (k : Sender). k.ending) is; going = ap (λ (k : Sender). k.refused) is }

  pub out_reaches : (m : Sender) (session query : ℕ) → m ≡ fresh → SendsToEach (ends_of (worker_of j tables slice at) session query) m.motion (receivers_of m.targets)
  out_reaches m session query is =
      subst (λ (k : Sender). SendsToEach (ends_of (worker_of j tables slice at) session query) k.motion (receivers_of k.targets)) (sym is)
      (subst (SendsToEach (ends_of (worker_of j tables slice at) session query) slice) (sym (fresh_receivers receivers)) (are.ends tables at session query here))

pub least_of : (n : ℕ) → (n ≡ 0 → ⊥) → 1 ≤ n
least_of zero f = absurd (f refl)
least_of (suc n) f = omega arith
