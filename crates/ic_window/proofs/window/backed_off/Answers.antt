use Rattle.std.proofs.Common.{◌∙◌, ◌*◌, ◌^◌, ◌%◌, min, ap}
use Rattle.ic_window.proofs.Steps.{doubled_is}
use Rattle.ic_window.proofs.window.backed_off.Goals as goal

pub returns-clause-value : goal.returns-clause-value
returns-clause-value c =
    c.min-2.ensures ∙ ap (λ k. min ((c.args.time * 2 ^ k) % 18446744073709551616) 64) c.min.ensures ∙ doubled_is c.args.tries c.args.time c.requires.least c.requires.greatest
