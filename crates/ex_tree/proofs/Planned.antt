-- What a slice's part gives and wants is what its plan's node does.
use Rattle.std.proofs.Common.{◌≡◌, ℕ, suc, ◌+◌, Bool, false, true, cond, List, Option, Some, None, refl, sym, ap, ◌∙◌}
use Rattle.std.specs.Prelude.{nat_le, length, ◌||◌}
use Rattle.pl_tree.specs.Trees.{Tree, Scan, Filter, Project, Limit, Sort, Join, Single, Partial, Final, Gather, Redistribute, Broadcast, motions_in, nodes_in}
use Rattle.pl_tree.specs.Partials.{Groups, partial_under}
use Rattle.pl_ops.specs.Streams.{Stream, at_end, join_stream}
use Rattle.pl_mean.specs.Parts.{Site, final_of}
use Rattle.pl_mean.specs.Outputs as outputs
use Rattle.pl_runs.specs.Steps.{Step, inputs_of}
use Rattle.pl_runs.specs.Wanting as wanting
use Rattle.ex_tree.specs.Parts as parts
use Rattle.pl_ops.specs.Rows.{Line}
use Rattle.ex_tree.specs.Running.{State, Runs}
use Rattle.ex_tree.specs.Plans.{Place, IsOfPlan, StandsBy, part_of, final_at}
use Rattle.ex_tree.proofs.Frames.{runs_begin, runs_pass, out_pass, silent_at, quiet_so, IsSilentFor}

final_gives : (i : ℕ) (o : Option Groups) (s : Stream) → parts.one_stream (final_at i o) s ≡ at_end (final_of o) s
final_gives i None s = refl
final_gives i (Some g) s = refl

final_open : (i : ℕ) (o : Option Groups) (s : Stream) → parts.is_full (final_at i o) s ≡ false
final_open i None s = refl
final_open i (Some g) s = refl

module _ (s : Site) (p : Place) (steps : List Step) where
  -- an operator that is no limit
  over : (i n : ℕ) (op : parts.Single) (c : Tree) (gives : Stream → Stream) → ((t : Stream) → parts.one_stream op t ≡ gives t) → ((t : Stream) → parts.is_full op t ≡ false) → IsOfPlan s p (suc i) n c steps
      → (parts.out (parts.Over op (part_of s p (suc i) n c)) steps ≡ gives (outputs.out s (inputs_of steps) n c p.at))
      × (parts.wants (parts.Over op (part_of s p (suc i) n c)) steps ≡ wanting.wanted s (inputs_of steps) n c p.at)
      × (parts.is_satisfied (parts.Over op (part_of s p (suc i) n c)) steps ≡ wanting.is_satisfied s (inputs_of steps) n c p.at)
  over i n op c gives same open_ h =
      let part = part_of s p (suc i) n c in (
        same (parts.out part steps) ∙ ap gives h.gives,
        ap (λ b. cond b None (parts.wants part steps)) (open_ (parts.out part steps)) ∙ h.wants,
        ap (λ b. b || parts.is_satisfied part steps) (open_ (parts.out part steps)) ∙ h.satisfied,
      )

  pub of_plan : (i n : ℕ) (t : Tree) → IsOfPlan s p i n t steps
  of_plan i n (Scan t) = record { gives = refl; wants = refl; satisfied = refl }
  of_plan i n (Filter e c) = let k = over i n (parts.Filters e) c (parts.one_stream (parts.Filters e)) (λ t. refl) (λ t. refl) (of_plan (suc i) n c) in record { gives = k.0; wants = k.1; satisfied = k.2 }
  of_plan i n (Project cols c) = let k = over i n (parts.Projects cols) c (parts.one_stream (parts.Projects cols)) (λ t. refl) (λ t. refl) (of_plan (suc i) n c) in record { gives = k.0; wants = k.1; satisfied = k.2 }
  of_plan i n (Sort ks c) = let k = over i n (parts.Sorts ks) c (parts.one_stream (parts.Sorts ks)) (λ t. refl) (λ t. refl) (of_plan (suc i) n c) in record { gives = k.0; wants = k.1; satisfied = k.2 }
  of_plan i n (Single g cs c) = let k = over i n (parts.Groups i false g cs) c (parts.one_stream (parts.Groups i false g cs)) (λ t. refl) (λ t. refl) (of_plan (suc i) n c) in record { gives = k.0; wants = k.1; satisfied = k.2 }
  of_plan i n (Partial g cs c) = let k = over i n (parts.Groups i false g cs) c (parts.one_stream (parts.Groups i false g cs)) (λ t. refl) (λ t. refl) (of_plan (suc i) n c) in record { gives = k.0; wants = k.1; satisfied = k.2 }
  of_plan i n (Final c) = let k = over i n (final_at i (partial_under c)) c (at_end (final_of (partial_under c))) (final_gives i (partial_under c)) (final_open i (partial_under c)) (of_plan (suc i) n c) in record { gives = k.0; wants = k.1; satisfied = k.2 }
  of_plan i n (Limit k c) =
      let h = of_plan (suc i) n c in
      let part = part_of s p (suc i) n c in
      let all = outputs.out s (inputs_of steps) n c p.at in
      record {
        gives = ap (parts.one_stream (parts.Limits k)) h.gives;
        wants = ap (λ (t : Stream). cond (nat_le k (length t.rows)) None (parts.wants part steps)) h.gives ∙ ap (λ w. cond (nat_le k (length all.rows)) None w) h.wants;
        satisfied = ap (λ (t : Stream). nat_le k (length t.rows) || parts.is_satisfied part steps) h.gives ∙ ap (λ b. nat_le k (length all.rows) || b) h.satisfied;
      }
  of_plan i n (Join on l r) =
      let a = of_plan (suc i) n l in
      let b = of_plan (suc (i + nodes_in l)) (n + motions_in l) r in
      let x = part_of s p (suc i) n l in
      let y = part_of s p (suc (i + nodes_in l)) (n + motions_in l) r in
      let right = outputs.out s (inputs_of steps) (n + motions_in l) r p.at in
      record {
        gives = ap (λ t. join_stream on t (parts.out x steps)) b.gives ∙ ap (join_stream on right) a.gives;
        wants = ap (λ (t : Stream). cond t.ended (parts.wants x steps) (parts.wants y steps)) b.gives ∙ ap (λ w. cond right.ended w (parts.wants y steps)) a.wants ∙ ap (λ w. cond right.ended (wanting.wanted s (inputs_of steps) n l p.at) w) b.wants;
        satisfied = ap (λ t. t || parts.is_satisfied y steps) a.satisfied ∙ ap (λ t. wanting.is_satisfied s (inputs_of steps) n l p.at || t) b.satisfied;
      }
  of_plan i n (Gather o c) = record { gives = refl; wants = refl; satisfied = refl }
  of_plan i n (Redistribute ks c) = record { gives = refl; wants = refl; satisfied = refl }
  of_plan i n (Broadcast c) = record { gives = refl; wants = refl; satisfied = refl }

pub stands_by : (part : parts.Part) (st : State) (steps : List Step) (given : List Line) → Runs part st steps given → StandsBy part st steps given
stands_by part st steps given r =
    let f = runs_begin part st steps given r in
    record {
      rest = f.0;
      front = f.1;
      passes = λ s e.
          let silent : IsSilentFor part s = λ t has. let k = e t has in silent_at t.end.motion s k.0 k.1 in (
            runs_pass part st steps s silent given r,
            out_pass part steps s (quiet_so part s silent),
          );
    }
