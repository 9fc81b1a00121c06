use Rattle.std.proofs.Common.{◌≡◌, ◌==◌, ◌∙◌, sym, ap, subst, drop, true, false, Option, arith}
use Rattle.std.specs.Result.{IfOk}
use Rattle.ic_chunk.specs.Reading.{Step, is_nil, may_stand}
use Rattle.ic_chunk.specs.Joining.{standing_at, Took}
use Rattle.ic_chunk.proofs.Taking.{is_nil-drop, refused_ended, refused_there, goes_on-allowed}
use Rattle.ic_chunk.proofs.draft.Draft.take.Goals as goal
use Rattle.ic_chunk.proofs.draft.Draft.take.Goals.{then-self-via-then-self, then-self-via-else-self+then-not-may_stand}

pub returns-then-self-clause-took : goal.returns-then-self-clause-took
returns-then-self-clause-took c =
    let s = c.args.self.now in
    elim c.then-self.branch [
      | then-self-via-then-self w ↦ refused_ended s.from s.bytes.items s.ended c.args.kind c.args.body.now s.rows _ w.if-self.true
      | then-self-via-else-self+then-not-may_stand w ↦
          let nil : is_nil (drop s.from s.bytes.items) ≡ (s.from == w.len.result) = is_nil-drop s.from s.bytes.items (omega (arith, s.within, s.bytes.ok.0)) ∙ ap (λ n. s.from == n) (omega (arith, w.len.ensures, s.bytes.ok.0)) in
          let there : may_stand c.args.kind (drop s.from s.bytes.items) ≡ false = sym (w.may_stand.ensures (drop s.from s.bytes.items) nil) ∙ w.if-not-may_stand.true in
          refused_there s.from s.bytes.items s.ended c.args.kind c.args.body.now s.rows _ w.if-self.false there
    ]

pub take_allowed-requires-clause-allowed : goal.take_allowed-requires-clause-allowed
take_allowed-requires-clause-allowed c =
    let s = c.args.self.now in
    let nil : is_nil (drop s.from s.bytes.items) ≡ (s.from == c.len.result) = is_nil-drop s.from s.bytes.items (omega (arith, s.within, s.bytes.ok.0)) ∙ ap (λ n. s.from == n) (omega (arith, c.len.ensures, s.bytes.ok.0)) in
    sym (c.may_stand.ensures (drop s.from s.bytes.items) nil) ∙ c.if-not-may_stand.false

pub returns-clause-took : goal.returns-clause-took
returns-clause-took c =
    let s = c.args.self.now in
    let t = c.take_allowed.new.self in
    let nil : is_nil (drop s.from s.bytes.items) ≡ (s.from == c.len.result) = is_nil-drop s.from s.bytes.items (omega (arith, s.within, s.bytes.ok.0)) ∙ ap (λ n. s.from == n) (omega (arith, c.len.ensures, s.bytes.ok.0)) in
    let there : may_stand c.args.kind (drop s.from s.bytes.items) ≡ true = sym (c.may_stand.ensures (drop s.from s.bytes.items) nil) ∙ c.if-not-may_stand.false in
    subst (λ (o : Option Step). IfOk c.take_allowed.result (λ went. Took o went s.rows t.rows (standing_at t.from t.bytes.items t.ended)))
    (goes_on-allowed s.from s.bytes.items s.ended c.args.kind c.args.body.now c.if-self.false there) c.take_allowed.ensures.took
