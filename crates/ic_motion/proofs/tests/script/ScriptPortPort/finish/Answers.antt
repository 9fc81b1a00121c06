use Rattle.ic_motion.proofs.tests.script.ScriptPortPort.finish.Goals as goal

pub returns-clause-refusals : goal.returns-clause-refusals
returns-clause-refusals c = c.sent.ensures.refusals c.args.motion c.args.to
