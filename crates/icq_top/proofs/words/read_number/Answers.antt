use Rattle.std.proofs.Common.{◌≡◌, true, sym, ◌∙◌, ap}
use Rattle.icq_top.specs.Words.{is_plain}
use Rattle.icq_top.proofs.WordLemmas.{number_read}
use Rattle.icq_top.proofs.words.read_number.Goals as goal

pub returns-then-is_plain : goal.returns-then-is_plain
returns-then-is_plain c =
    let plain : is_plain c.args.text.now ≡ true = ap is_plain (sym c.as_bytes.ensures.value) ∙ sym c.is_plain.ensures ∙ c.if-is_plain.true in
    c.ok.ensures.value ∙ number_read c.args.text.now c.parse.result plain c.parse.ensures.value.0
