use Rattle.std.proofs.Common.{refl, sym, ap, ◌∙◌, subst, Ok, arith}
use Rattle.ic_motion.specs.Answers.{WaitsBusy}
use Rattle.ex_tree.specs.Running.{state_of, AreHeard}
use Rattle.ex_tree.specs.Working.{work, Falls}
use Rattle.ex_tree.specs.declared.answers.Pulled.TheVariants.{Step as Went}
use Rattle.ex_tree.specs.Pulling.{PullsAny, Touches, PullWaits}
use Rattle.ex_slice.proofs.Fetching.{ok_same, pulled_after, stepped, falls_after}
use Rattle.ex_slice.proofs.acting.fetch.Goals as goal

pub pull-requires : goal.pull-requires
pull-requires g c = subst (λ q. AreHeard (g.P.Port.keys q) (state_of c.loop-got.tree)) (sym c.loop-got.invariant.same) (c.loop-got.invariant.heard (g.P.Port.keys c.args.port.now) c.requires)

pub returns-in_default : goal.returns-in_default
returns-in_default g c =
    let e = c.in_ok-got.ensures in
    let same = c.loop-got.invariant.same in
    record {
      keys = e.keys ∙ ap g.P.Port.keys same;
      heard = λ keys h. e.heard keys (c.loop-got.invariant.heard keys h);
      touches = subst (λ q. Touches g.P.Port.steps q c.pull.new.port (Ok c.in_ok-got.got)) same e.touches;
      busy = subst (λ q. WaitsBusy (g.P.Port.busy q) (g.P.Port.busy c.pull.new.port) (PullWaits (Ok c.in_ok-got.got))) same e.busy;
      pulls = pulled_after (state_of c.args.tree.now) (state_of c.loop-got.tree) (state_of c.pull.new.self) (g.P.Port.log c.args.port.now) (g.P.Port.log c.pull.new.port) (Ok c.in_ok-got.got) c.loop-got.invariant.runs
          (subst (λ q. PullsAny (state_of c.loop-got.tree) (state_of c.pull.new.self) (g.P.Port.log q) (g.P.Port.log c.pull.new.port) (Ok c.in_ok-got.got)) same e.pulls);
      falls = falls_after c.in_ok-got.got (work (state_of c.args.tree.now)) (work (state_of c.loop-got.tree)) (work (state_of c.pull.new.self)) c.loop-got.invariant.less e.falls;
      stops = λ e. c.in_default.not-Step (ok_same c.in_ok-got.got Went (Ok c.in_ok-got.got) refl e);
    }

pub loop-got-preserved : goal.loop-got-preserved
loop-got-preserved g c =
    let e = c.in_ok-got.ensures in
    let same = c.loop-got.invariant.same in
    record {
      same = subst (λ x. Touches g.P.Port.steps c.loop-got.port c.pull.new.port (Ok x)) c.in-Step.is e.touches ∙ same;
      heard = λ keys h. e.heard keys (c.loop-got.invariant.heard keys h);
      runs = stepped (state_of c.args.tree.now) (state_of c.loop-got.tree) (state_of c.pull.new.self) (g.P.Port.log c.args.port.now) (g.P.Port.log c.pull.new.port) c.loop-got.invariant.runs
          (subst (λ q. PullsAny (state_of c.loop-got.tree) (state_of c.pull.new.self) (g.P.Port.log q) (g.P.Port.log c.pull.new.port) (Ok _)) same (subst (λ x. PullsAny (state_of c.loop-got.tree) (state_of c.pull.new.self) (g.P.Port.log c.loop-got.port) (g.P.Port.log c.pull.new.port) (Ok x)) c.in-Step.is e.pulls));
      less =
          let fell : Falls Went (work (state_of c.loop-got.tree)) (work (state_of c.pull.new.self)) = subst (λ x. Falls x (work (state_of c.loop-got.tree)) (work (state_of c.pull.new.self))) c.in-Step.is e.falls in
          let less = c.loop-got.invariant.less in
          omega (arith, fell, less);
    }
