-- The test on two keys decides their equality.
use Rattle.std.proofs.Common.{◌≡◌, ℕ, ℤ, true, refl, ap, ◌∙◌}
use Rattle.std.specs.Bool.{Decides}
use Rattle.std.proofs.lemmas.Bool.Decides.{Decides-eqb, Decides-int_eq, Decides-and, Decides-like}
use Rattle.ic_base.specs.declared.keys.ConnKey.{ConnKey}
use Rattle.ic_base.specs.Keys.{key_eq}

key : ℕ → ℕ → ℕ → ℤ → ℤ → ConnKey
key session query motion from to = record { session = session; query = query; motion = motion; from = from; to = to }

key_fields : (a b : ConnKey) → (a.session ≡ b.session) × (a.query ≡ b.query) × (a.motion ≡ b.motion) × (a.from ≡ b.from) × (a.to ≡ b.to) → a ≡ b
unfolding key
key_fields a b h =
    ap (λ x. key x a.query a.motion a.from a.to) h.0 ∙ ap (λ x. key b.session x a.motion a.from a.to) h.1 ∙ ap (λ x. key b.session b.query x a.from a.to) h.2
    ∙ ap (λ x. key b.session b.query b.motion x a.to) h.3 ∙ ap (λ x. key b.session b.query b.motion b.from x) h.4

pub Decides-key_eq : (a b : ConnKey) → Decides (key_eq a b) (a ≡ b)
unfolding key_eq
Decides-key_eq a b =
    let all = Decides-and _ _ (Decides-eqb a.session b.session)
    (Decides-and _ _ (Decides-eqb a.query b.query)
    (Decides-and _ _ (Decides-eqb a.motion b.motion)
    (Decides-and _ _ (Decides-int_eq a.from b.from) (Decides-int_eq a.to b.to)))) in
    Decides-like _ (λ h. key_fields a b (h.0, h.1.0, h.1.1.0, h.1.1.1.0, h.1.1.1.1))
    (λ e. (ap (λ (k : ConnKey). k.session) e, (ap (λ (k : ConnKey). k.query) e, (ap (λ (k : ConnKey). k.motion) e, (ap (λ (k : ConnKey). k.from) e, ap (λ (k : ConnKey). k.to) e))))) all

pub key_eq-same : (c : ConnKey) → key_eq c c ≡ true
key_eq-same c = (Decides-key_eq c c).1 refl

pub key_eq-tells : (a b : ConnKey) → key_eq a b ≡ true → a ≡ b
key_eq-tells a b h = (Decides-key_eq a b).0 h
