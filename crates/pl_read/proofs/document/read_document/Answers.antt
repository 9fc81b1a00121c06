use Rattle.std.proofs.Common.{rules, ◌≡◌, ℕ, List, [], None, Some, Result, Err, ap, subst, sym}
use Rattle.serde_json.specs.View.{view}
use Rattle.pl_read.specs.declared.fault.Flaw.TheVariants.{NoJson}
use Rattle.pl_read.specs.declared.place.Place.{the_lemmas}
use Rattle.pl_read.specs.declared.place.Place as place
use Rattle.pl_read.specs.declared.document.Document.{Document}
use Rattle.pl_read.specs.declared.fault.DocNo.{DocNo}
use Rattle.pl_read.specs.Paths.{Step, path_of}
use Rattle.pl_read.specs.Faults.{Gives, Tells, Fails, fault_at, or_refused, ◌>>=◌}
use Rattle.pl_read.specs.Documents.{document_at, value_of, reading}
use Rattle.serde_json.specs.Data.{Data}
use Rattle.pl_read.proofs.DocumentLimits.{read_keeps}
use Rattle.pl_read.proofs.TextLimits.{read_is_short}
use Rattle.pl_read.proofs.ValueLemmas.{value_of-some, value_of-none, told}
use Rattle.pl_read.proofs.document.read_document.Goals as goal

read : (path : List Step) (bytes : List ℕ) (d : Data) (result : Result Document DocNo) → path ≡ [] → value_of bytes ≡ Some d → Gives (λ x. x) result (document_at path d) → Gives (λ x. x) result (reading bytes)
read path bytes d result here is gives =
    let given = subst (λ p. Gives (λ x. x) result (document_at p d)) here gives in
    subst (λ v. Gives (λ x. x) result (or_refused v [] NoJson >>= document_at [])) (sym is) given

pub returns-in-Ok-clause-exact : goal.returns-in-Ok-clause-exact
returns-in-Ok-clause-exact c =
    let here : path_of place.Document ≡ [] = search (rules, the_lemmas) in
    let is : value_of c.args.bytes.now ≡ Some (view c.in-Ok.value) = value_of-some _ _ c.in-Ok.ensures.ok.0 c.in-Ok.ensures.ok.1 in
    read (path_of place.Document) c.args.bytes.now (view c.in-Ok.value) c.document_of.result here is c.document_of.ensures

pub returns-in-Ok-clause-limits : goal.returns-in-Ok-clause-limits
returns-in-Ok-clause-limits c =
    let here : path_of place.Document ≡ [] = search (rules, the_lemmas) in
    let is : value_of c.args.bytes.now ≡ Some (view c.in-Ok.value) = value_of-some _ _ c.in-Ok.ensures.ok.0 c.in-Ok.ensures.ok.1 in
    read_keeps c.args.bytes.now c.document_of.result (read (path_of place.Document) c.args.bytes.now (view c.in-Ok.value) c.document_of.result here is c.document_of.ensures)

pub returns-in-Ok-clause-texts : goal.returns-in-Ok-clause-texts
returns-in-Ok-clause-texts c =
    let here : path_of place.Document ≡ [] = search (rules, the_lemmas) in
    let is : value_of c.args.bytes.now ≡ Some (view c.in-Ok.value) = value_of-some _ _ c.in-Ok.ensures.ok.0 c.in-Ok.ensures.ok.1 in
    read_is_short c.args.bytes.now c.document_of.result (read (path_of place.Document) c.args.bytes.now (view c.in-Ok.value) c.document_of.result here is c.document_of.ensures)

pub returns-in-Err-NoJson-clause-exact : goal.returns-in-Err-NoJson-clause-exact
returns-in-Err-NoJson-clause-exact c =
    let here : path_of place.Document ≡ [] = search (rules, the_lemmas) in
    let none : value_of c.args.bytes.now ≡ None = value_of-none _ (c.in-Err-NoJson.ensures.err (ap Err c.in-Err-NoJson.field-0-is)) in
    let tells : Tells c.no.result (fault_at [] NoJson) = subst (λ path. Tells c.no.result (fault_at path NoJson)) here c.no.ensures in
    subst (λ v. Fails c.no.result (or_refused v [] NoJson >>= document_at [])) (sym none) (told _ c.no.result (fault_at [] NoJson) tells)
