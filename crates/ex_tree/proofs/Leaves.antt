-- A pull of a motion, said of a tree.
use Rattle.std.proofs.Common.{◌≡◌, ℕ, ℤ, Bool, true, false, List, [], ◌∷◌, ◌++◌, Option, Some, None, Result, Ok, Err, IfOk, refl, sym, ap, ◌∙◌, subst, append-nil}
use Rattle.std.specs.Prelude.{OnOk}
use Rattle.std.specs.List.{Contains}
use Rattle.ic_base.specs.declared.datagram.Parcel.{Parcel}
use Rattle.ic_base.specs.declared.port.PortNo.{PortNo}
use Rattle.ic_base.specs.declared.port.PortNo.TheVariants.{Full, Empty, Stopped, Ended, TooLong, Busy, Memory}
use Rattle.ic_base.specs.declared.port.PortReply.TheVariants.{Gave, Refused}
use Rattle.ic_base.specs.declared.port.PortEntry.{PortEntry}
use Rattle.ic_base.specs.declared.keys.ConnEnd.{ConnEnd}
use Rattle.pl_ops.specs.Rows.{Line}
use Rattle.pl_ops.specs.Streams.{Stream}
use Rattle.pl_ops.specs.Giving.{IsAll, IsOver}
use Rattle.pl_runs.specs.Steps.{Step, calls_of, parcels_by, is_ended}
use Rattle.pl_runs.specs.Wanting.{wants_of}
use Rattle.pl_runs.specs.Logs.{IsRead}
use Rattle.ic_motion.specs.declared.answers.Got.{Got}
use Rattle.ic_motion.specs.declared.answers.Got.TheVariants as gots
use Rattle.ic_motion.specs.declared.answers.MotionNo.{MotionNo}
use Rattle.ic_motion.specs.declared.answers.MotionNo.TheVariants as motions
use Rattle.ic_motion.specs.Answers.{refused_by}
use Rattle.ic_motion.specs.Hearing.{Listener, senders_of, heard_of}
use Rattle.ic_motion.specs.Hearing as hearing
use Rattle.ic_motion.specs.Pulling.{AtMostOne, IsTake, IsFromSender, SameIn, given_of}
use Rattle.ic_motion.specs.Pulling as pulling
use Rattle.ex_tree.specs.declared.answers.Pulled.{Pulled}
use Rattle.ex_tree.specs.declared.answers.Pulled.TheVariants as got
use Rattle.ex_tree.specs.declared.answers.TreeNo.{TreeNo}
use Rattle.ex_tree.specs.declared.answers.TreeNo.TheVariants as why
use Rattle.ex_tree.specs.Parts.{Source, Part, Hears, Has, came, out, wants}
use Rattle.ex_tree.specs.Running.{State, Ears, Runs, Holds, IsUncut, source_of}
use Rattle.ex_tree.specs.Pulling.{IsAsked, IsSound, IsSpoilt, Leaves, Pulls, PullsAny, WaitsFor}
use Rattle.ex_tree.specs.Inside.{tree_result, no_of_motion}
use Rattle.ex_tree.proofs.Heard.{came_heard, wants_heard, uncut_more}
use Rattle.ex_tree.proofs.Nodes.{most_map}

most_both : (P Q R : Step → Type 0) (more : List Step) → ((s : Step) → P s → Q s → R s) → AtMostOne P more → AtMostOne Q more → AtMostOne R more
most_both P Q R [] f h k = tt
most_both P Q R (s ∷ []) f h k = f s h k
most_both P Q R (s ∷ t ∷ more) f h k = absurd h

module _ (part : Part) (m : Listener) (steps : List Step) (given : List Line) (is : part ≡ Hears (source_of m)) (h : Holds m steps given) where
  has : Has part (source_of m)
  has = subst (λ q. Has q (source_of m)) (sym is) refl

  same : given_of m steps ≡ came (source_of m) steps
  same = came_heard m steps h.uncut

  asked_so : (s : Step) → IsTake m steps given s → IsFromSender m s → IsAsked part steps given s
  asked_so s t from = record {
    source = source_of m;
    has = has;
    takes = t.takes;
    from = from;
    all = subst (λ q. IsAll (out q steps) given) (sym is) (subst (λ x. IsAll x given) same (record { goes_on = t.goes_on; rows = sym t.all }));
    wanted = t.wanted ∙ wants_heard m steps h.uncut ∙ sym (ap (λ q. wants q steps) is);
    once = t.once;
  }

  sound_so : (s : Step) → IsTake m steps given s → IsRead steps s → pulling.IsSound m steps s → IsSound part steps s
  sound_so s t read sound = record { read = read; source = source_of m; has = has; takes = t.takes; sound = sound }

  most_sound : (more : List Step) → AtMostOne (IsTake m steps given) more → AtMostOne (IsRead steps) more → AtMostOne (pulling.IsSound m steps) more → AtMostOne (IsSound part steps) more
  most_sound [] t r s = tt
  most_sound (e ∷ []) t r s = sound_so e t r s
  most_sound (e ∷ d ∷ more) t r s = absurd t

  -- the same motion after the pull
  module _ (new : Listener) (now : List PortEntry) (source : source_of new ≡ source_of m) where
    runs_on : (more : List Step) (rows : List Line) → IsUncut m.end.motion more → new.refused ≡ None → hearing.Hears new more rows → Runs part (Ears new) more rows
    runs_on more rows uncut going hears = (
      is ∙ ap Hears (sym source),
      record { going = going; uncut = subst (λ (x : Source). IsUncut x.end.motion more) (sym source) uncut; hears = hears },
    )

    -- the answer, by the motion's
    leaves_so : (more : List Step) (result : Result Got MotionNo) → AtMostOne (IsTake m steps given) more → new.refused ≡ refused_by result → pulling.Leaves m new steps more given result → Leaves part (Ears new) steps more given (tree_result result)
    leaves_so more (Ok (gots.Row row)) take going (hears, tells, none, read, sound) = (
      none,
      runs_on steps (given ++ row ∷ []) h.uncut going (subst (λ x. hearing.Hears new x (given ++ row ∷ [])) (ap (λ x. steps ++ x) none ∙ append-nil steps) hears),
    )
    leaves_so more (Ok gots.More) take going (hears, tells, took, read, sound) = (
      took,
      most_sound more take read sound,
      runs_on (steps ++ more) given (uncut_took more took) going (subst (hearing.Hears new (steps ++ more)) (append-nil given) hears),
    )
      where
        uncut_took : (more : List Step) → (s : Step) × (p : Parcel) × (more ≡ s ∷ []) × (s.entry.reply ≡ Gave p) → IsUncut m.end.motion (steps ++ more)
        uncut_took more t = subst (λ x. IsUncut m.end.motion (steps ++ x)) (sym t.2) (uncut_more m.end.motion steps t.0 (ap is_ended t.3) h.uncut)
    leaves_so more (Ok (gots.Wait no_)) take going (hears, tells, waits, read, sound) = by no_ waits
      where
        wait : (no_ : PortNo) → WaitsFor no_ more → IsUncut m.end.motion (steps ++ more) → Leaves part (Ears new) steps more given (Ok (got.Wait no_))
        wait no_ w uncut = (w, most_sound more take read sound, runs_on (steps ++ more) given uncut going (subst (hearing.Hears new (steps ++ more)) (append-nil given) hears))

        by : (no_ : PortNo) → pulling.Answers (gots.Wait no_) more → Leaves part (Ears new) steps more given (Ok (got.Wait no_))
        by Empty w = wait Empty w (subst (λ x. IsUncut m.end.motion (steps ++ x)) (sym w.1) (uncut_more m.end.motion steps w.0 (ap is_ended w.2) h.uncut))
        by Busy w = wait Busy w (subst (IsUncut m.end.motion) (sym (ap (λ x. steps ++ x) w ∙ append-nil steps)) h.uncut)
        by Full w = absurd w
        by Stopped w = absurd w
        by Ended w = absurd w
        by (TooLong key) w = absurd w
        by Memory w = absurd w
    leaves_so more (Ok gots.End) take going (hears, tells, none, read, sound) = (
      none,
      subst (λ q. IsOver (out q steps) given) (sym is) (subst (λ x. IsOver x given) same (record { ended = tells.1; rows = sym tells.0 })),
      runs_on steps given h.uncut going (subst (λ x. hearing.Hears new x given) (ap (λ x. steps ++ x) none ∙ append-nil steps) (subst (hearing.Hears new (steps ++ more)) (append-nil given) hears)),
    )
    leaves_so more (Err (motions.Malformed key)) take going w =
        (w.0, w.1, record { read = w.2; source = source_of m; has = has; p = w.3.p; is = w.3.is; key_is = w.3.key_is; spoils = w.3.spoils })
    leaves_so more (Err (motions.TooLong key)) take going w = absurd w
    leaves_so more (Err motions.Memory) take going w = tt

pub same_source : (m new : Listener) → SameIn m new → senders_of new.lanes ≡ senders_of m.lanes → source_of new ≡ source_of m
same_source m new s senders =
    ap (λ e. record { end = e; order = new.order; kinds = new.kinds; senders = senders_of new.lanes }) s.end
    ∙ ap (λ o. record { end = m.end; order = o; kinds = new.kinds; senders = senders_of new.lanes }) s.order
    ∙ ap (λ k. record { end = m.end; order = m.order; kinds = k; senders = senders_of new.lanes }) s.kinds
    ∙ ap (λ a. record { end = m.end; order = m.order; kinds = m.kinds; senders = a }) senders

leaf_leaves : (part : Part) (m new : Listener) (steps more : List Step) (given : List Line) (now : List PortEntry) (result : Result Got MotionNo) → part ≡ Hears (source_of m) → Holds m steps given
    → SameIn m new → IfOk result (λ _. senders_of new.lanes ≡ senders_of m.lanes) → new.refused ≡ refused_by result → AtMostOne (IsTake m steps given) more → pulling.Leaves m new steps more given result
    → Leaves part (Ears new) steps more given (tree_result result)
leaf_leaves part m new steps more given now (Ok answer) is h s senders going take w = leaves_so part m steps given is h new now (same_source m new s senders) more (Ok answer) take going w
leaf_leaves part m new steps more given now (Err (motions.Malformed key)) is h s senders going take w =
    (w.0, w.1, record { read = w.2; source = source_of m; has = subst (λ q. Has q (source_of m)) (sym is) refl; p = w.3.p; is = w.3.is; key_is = w.3.key_is; spoils = w.3.spoils })
leaf_leaves part m new steps more given now (Err (motions.TooLong key)) is h s senders going take w = absurd w
leaf_leaves part m new steps more given now (Err motions.Memory) is h s senders going take w = tt

pub leaf_pulls : (m new : Listener) (log now : List PortEntry) (result : Result Got MotionNo) → SameIn m new → IfOk result (λ _. senders_of new.lanes ≡ senders_of m.lanes) → new.refused ≡ refused_by result
    → ((steps : List Step) (given : List Line) → m.refused ≡ None → calls_of steps ≡ log → hearing.Hears m steps given → pulling.Pulled m new steps given now result) → PullsAny (Ears m) (Ears new) log now (tree_result result)
leaf_pulls m new log now result s senders going f part steps given calls (is, h) =
    let q = f steps given h.going calls h.hears in
    record {
      more = q.more;
      log = q.log;
      makes = most_both (IsTake m steps given) (IsFromSender m) (IsAsked part steps given) q.more (asked_so part m steps given is h) q.makes q.from;
      leaves = leaf_leaves part m new steps q.more given now result is h s senders going q.makes q.leaves;
    }
