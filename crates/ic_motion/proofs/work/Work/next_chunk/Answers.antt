use Rattle.std.proofs.Common.{◌≡◌, ◌++◌, ℕ, List, map, Ok, true, false, refl, sym, ap, ◌∙◌, subst}
use Rattle.ic_chunk.specs.Chunks.{spelled}
use Rattle.ic_motion.specs.Sending.{Work}
use Rattle.ic_motion.specs.Putting.{Settles, HasRest}
use Rattle.ic_motion.proofs.Works.{settled_none, settled_next}
use Rattle.ic_motion.proofs.work.Work.next_chunk.Goals as goal

pub returns-then-first-self-clause-ok : goal.returns-then-first-self-clause-ok
returns-then-first-self-clause-ok c =
    let s = c.self.inside in
    let ts = c.args.targets.now in
    let w : Work = record { chunk = s.chunk.items; rest = map spelled s.splitter; first = s.first; end = s.end; at = s.at } in
    subst (λ (o : Work). Settles ts o o false) c.self.view_is (settled_none ts w c.next_open-first.result c.next_open-first.ensures c.if-first-self.true)

pub returns-clause-ok : goal.returns-clause-ok
returns-clause-ok c =
    let s = c.self.inside in
    let ts = c.args.targets.now in
    let w : Work = record { chunk = s.chunk.items; rest = map spelled s.splitter; first = s.first; end = s.end; at = s.at } in
    let first : ℕ = c.next_open-first.result in
    let n = c.in_ok-next.ensures.chunk (ap Ok c.if-not-branch.false) in
    let work : List ℕ → Work = λ chunk. record { chunk = chunk; rest = map spelled c.next.new.self; first = s.first; end = s.end; at = first } in
    let chunk : c.next.new.out.items ≡ spelled n.0 = n.2 ∙ ap (λ l. l ++ spelled n.0) c.clear.ensures.items in
    subst (λ (o : Work). Settles ts o (work c.next.new.out.items) true) c.self.view_is
    (settled_next ts w (work c.next.new.out.items) first n.0 s.splitter c.next.new.self (subst (HasRest ts) (sym c.self.view_is) c.requires) c.next_open-first.ensures c.if-first-self.false refl n.1 (ap work chunk))
