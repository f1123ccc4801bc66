-- The key's own call at an address is one call: the address tells its place, and the place its function and input.
-- Assumes nothing.
use mathlib.Core.Path.{◌≡◌, sym, ap, ◌∙◌, subst}
use mathlib.Core.List.{List}
use mathlib.Core.Option.{some-injective}
use Rattle.rules.specs.Places.{Bytes, Place, address}
use Rattle.rules.specs.Calls.{Function, of, Call, call_of, address_of, Family, under}
use Rattle.rules.specs.Sets.{Row, Legal}
use Rattle.findings.specs.Findings.{Collision, OwnCall}
use Rattle.labels.specs.Labels.{LegalPlace, InWords, function_at, input_at, own_at, Placed}
use Rattle.labels.proofs.AddressLaws.{address_injective}
use Rattle.labels.proofs.OwnLaws.{own_placed}

module _ (r : Row) (f : Family r.n r.m) (sk_seed pk_seed : Bytes) where
  abbrev Own : Call → Type 0
  Own c = OwnCall r f sk_seed pk_seed c

  abbrev ours_at : Place → Call
  ours_at p = own_at (under f pk_seed) r.a r.k sk_seed p

  -- Its address is that of its place.
  addressed : (c : Call) (u : Placed r (under f pk_seed) sk_seed c) → address_of c.place ≡ address u.place
  addressed c u = ap (λ (x : Call). address_of x.place) u.is_call

  -- What an own call at a place is, field by field.
  own_parts : (g : Function) (p : Place) (y : Bytes) → Own (call_of g p y)
      → LegalPlace r p × (g ≡ function_at p) × (y ≡ input_at (under f pk_seed) r.a r.k sk_seed p)
  own_parts g p y o =
      let u = own_placed r f sk_seed pk_seed (call_of g p y) o in
      let there : p ≡ u.place = some-injective p u.place (ap (λ (x : Call). x.place) u.is_call) in
      let e : call_of g p y ≡ ours_at p = u.is_call ∙ ap ours_at (sym there) in
      let kinds : of g ≡ of (function_at p) = ap (λ (x : Call). x.kind) e in
      (subst (LegalPlace r) (sym there) u.place_legal, cc, ap (λ (x : Call). x.input) e)

  -- In a collision the key's call is the own call at its place: legal, of that place's function, with its input.
  pub collision_own : {made : List Call} (x : Collision (under f pk_seed) Own made)
      → LegalPlace r x.place × (x.function ≡ function_at x.place)
      × (x.ours ≡ input_at (under f pk_seed) r.a r.k sk_seed x.place)
  collision_own x = own_parts x.function x.place x.ours x.is_own

  module _ (legal : Legal r) (room : InWords r) where
    -- Two own calls at one address are one call: one kind, one place, one input.
    pub own_once : (c e : Call) → Own c → Own e → address_of c.place ≡ address_of e.place → c ≡ e
    own_once c e oc oe same =
        let u = own_placed r f sk_seed pk_seed c oc in
        let v = own_placed r f sk_seed pk_seed e oe in
        u.is_call
        ∙ ap ours_at (address_injective r legal room u.place v.place u.place_legal v.place_legal
        (sym (addressed c u) ∙ same ∙ addressed e v))
        ∙ sym v.is_call

    -- So whichever own call has a collision's address is the call that it names.
    pub collision_only : {made : List Call} (x : Collision (under f pk_seed) Own made) (e : Call) → Own e
        → address_of e.place ≡ address x.place → e ≡ call_of x.function x.place x.ours
    collision_only x e oe same = own_once e (call_of x.function x.place x.ours) oe x.is_own same
