use Rattle.std.proofs.Common.{Ok, ◌∙◌}
use Rattle.std.proofs.lemmas.Iterator.Adapters.{fact_from_extend}
use Rattle.std.proofs.lemmas.Iterator.{YieldsList-from_slice}
use Rattle.std.specs.declared.alloc.AllocError.{AllocError}
use Rattle.indexmap.specs.IndexSet.{insert_all}
use Rattle.ic_base.specs.Keys.{key_eq}
use Rattle.ic_conntab.proofs.TableKeys.{insert_all-distinct, key_eq-flips}
use Rattle.ic_conntab.proofs.keys.Keys.new.Goals as goal

pub returns : goal.returns
unfolding key_eq
returns c =
    fact_from_extend {E = AllocError} (λ y. y.now) (Ok c.in_ok-extend.field-0) c.in_ok-extend.ensures.ran (λ it b. YieldsList-from_slice _ b.0)
    (λ xs e h. h.0 ∙ (λ i. insert_all key_eq (c.in_ok-all.ensures.empty i) (e i)) ∙ insert_all-distinct key_eq key_eq-flips c.args.keys.now c.requires.distinct)
