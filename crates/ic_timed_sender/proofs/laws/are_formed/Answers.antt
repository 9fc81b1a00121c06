use Rattle.std.proofs.Common.{ap, sym, ◌∙◌, subst, Bool}
use Rattle.ic_base.specs.declared.keys.ConnKey.{ConnKey}
use Rattle.ic_header.specs.Packets.{IsSegment, key_of}
use Rattle.ic_law.specs.Points.{IsDirected}
use Rattle.ic_timed_sender.proofs.laws.are_formed.Goals as goal

pub returns : goal.returns
returns c place end packet d session at is = record {
  packet = record { head = is.head; body = is.body };
  spelled = is.spelled;
  session = ap (λ (k : ConnKey). k.session) is.key ∙ session;
  src_content = subst IsSegment (sym (ap (λ (k : ConnKey). k.from) is.key)) is.from_is;
  dst_content = subst IsSegment (sym (ap (λ (k : ConnKey). k.to) is.key)) is.to_is;
  from = is.from ∙ at;
  ends = subst (λ (b : Bool). IsDirected b d (key_of is.head)) (sym is.forth) (is.from ∙ sym (ap (λ (k : ConnKey). k.from) is.key), is.to ∙ sym (ap (λ (k : ConnKey). k.to) is.key));
}
