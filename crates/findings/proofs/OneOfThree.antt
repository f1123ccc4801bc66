-- Demand 3: an accepted seal is the holder's own, or shows a collision with the key's own call, or a chain that starts
-- too low. Layers are searched from the top down, then the forest; the first finding ends the search.
-- Assumes nothing.
use mathlib.Core.Path.{◌≡◌, refl, sym, ap, ap₂, ◌∙◌, subst}
use mathlib.Core.Logic.{◌≢◌, ◌⊎◌, inl, inr}
use mathlib.Core.List.{◌++◌}
use Prim.Native.Nat.{ℕ, zero, suc, ◌+◌, ◌-◌, ◌*◌, ◌^◌, ◌<◌}
use native.Mathlib.Nat.{add-mul, zero-add}
use native.Mathlib.Omega.{arith}
use lib.ListN.{length, get_or, take, drop, length-drop, take-append-drop}
use lib.Seq.{take_all}
use Rattle.lists.proofs.Parts.{drop_to}
use Rattle.rules.specs.Places.{Bytes, IsBytes}
use Rattle.rules.specs.Calls.{Family, under, Run, ◌>>=◌, Call}
use Rattle.rules.specs.Chains.{chain_digits}
use Rattle.rules.specs.Layers.{own_root, layer_seal, layer_root, layers_root, tree_at, leaf_at}
use Rattle.rules.specs.Forest.{own_forest, forest_seal}
use Rattle.rules.specs.Sets.{Row, Legal}
use Rattle.rules.specs.Digest.{Pointed}
use Rattle.rules.specs.Keys.{piece, key_root, public_key}
use Rattle.rules.specs.Seal.{digest_of, written, seal_with, part_start, part_length, part, held_value}
use Rattle.rules.specs.Check.{checked_root, Accepted, checked_value}
use Rattle.findings.specs.Findings.{Collision, OwnCall, of_tree, of_forest, LowStart, holders, points_to, OneOfThree}
use Rattle.findings.specs.Findings.{own_seal, collision, low_start}
use Rattle.rules.proofs.SetLaws.{checksum_fits}
use Rattle.rules.proofs.ChecksumLaws.{lower_digit}
use Rattle.findings.proofs.FindingLaws.{bytes_discrete, Owns, before, after, then, found}
use Rattle.findings.proofs.LayerFindings.{Shows, holder_shows, layer_shows}
use Rattle.rules.proofs.LayerLaws.{own_root_sized, zero_tree}
use Rattle.rules.proofs.ForestLaws.{own_forest_sized}
use Rattle.findings.proofs.ForestFindings.{forest_shows}
use Rattle.rules.proofs.DigestLaws.{Inside, points_inside, heights, tree_at_lt}
use Rattle.rules.proofs.KeyLaws.{public_root}
use Rattle.rules.proofs.SealLaws.{per_forest, per_layer, seal_parts, part_long, next_part, held_layer, layers_from}
use Rattle.rules.proofs.SealLaws.{from_zero, from_suc, leaf_lt, part_layer, written_is}
use Rattle.rules.proofs.CheckLaws.{tree_of, leaf_of, forest_run, layer_run, layers_run, root_run, next_run}
use Rattle.rules.proofs.CheckLaws.{checked_sized}
use Rattle.rules.proofs.Accepts.{checked_is}

-- A collision or a low start, one of which ends the search.
either : {A B C D : Type 0} → (A → C) → (B → D) → A ⊎ B → C ⊎ D
either f g (inl a) = inl (f a)
either f g (inr b) = inr (g b)

module _ (r : Row) (legal : Legal r) (f : Family r.n r.m) (sk pk : Bytes) where
  abbrev Own : Call → Type 0
  Own = OwnCall r f sk pk

  -- A seal at a place of the key, and the holder's seal at that place.
  module _ (at : Pointed) (p : Inside r at) (seal held : Bytes) (long : length seal ≡ r.seal_bytes)
      (held_part : (j : ℕ) → j < r.d → part r (suc (suc j)) held ≡ held_layer r legal f sk pk at p j) where
    abbrev tree : ℕ → ℕ
    tree j = tree_of r at j

    abbrev leaf : ℕ → ℕ
    leaf j = leaf_of r at j

    -- Layer j's part of the seal, the value that the check reads there, and the value that the holder seals there.
    abbrev layer_part : ℕ → Bytes
    layer_part j = part r (suc (suc j)) seal

    abbrev checked : ℕ → Bytes
    checked j = checked_value r f pk at seal j

    abbrev own : ℕ → Bytes
    own j = held_value r f pk at sk j

    own_sized : (j : ℕ) → IsBytes r.n (own j)
    unfolding held_value
    own_sized zero = own_forest_sized (under f pk) at.tree at.leaf r.a sk r.k
    own_sized (suc j) = own_root_sized (under f pk) r.h' sk j (tree j)

    -- The own root of layer j's tree. Its calls are the key's own.
    abbrev tree_run : ℕ → Run Bytes
    tree_run j = own_root (under f pk) r.h' sk j (tree j)

    owns_tree : (j : ℕ) → j < r.d → Owns Own (tree_run j)
    owns_tree j h c m = of_tree j (tree j) h (subst (λ (x : ℕ). tree j < 2 ^ (r.h' * x)) above lt) m
      where
        above : r.d - 1 - j ≡ r.d - suc j
        above = omega arith

        lt : tree j < 2 ^ (r.h' * (r.d - 1 - j))
        lt = tree_at_lt r.h' at.tree (r.d - 1) j (omega arith) p.tree_lt

    -- What a walk can show: a collision among its calls, or a low start.
    abbrev Finding : Run Bytes → Type 0
    Finding run = Collision (under f pk) Own run.calls ⊎ LowStart r f pk at sk seal held

    -- ---- One layer that leads to its own root: collisions first, then a low start

    abbrev one_run : ℕ → Run Bytes
    one_run j = layer_run r f pk at seal j

    -- The layer is the holder's.
    abbrev Same : ℕ → Type 0
    Same j = (checked j ≡ own j) × (layer_part j ≡ held_layer r legal f sk pk at p j)

    abbrev Shown : ℕ → Type 0
    Shown j = Shows (under f pk) r.h' sk j (tree j) (leaf j) (layer_part j) (checked j)

    low : (j : ℕ) → j < r.d → Shown j → checked j ≢ own j → LowStart r f pk at sk seal held
    low j h s differ =
        let c = lower_digit r.n (checksum_fits r legal) (checked j) (own j) (checked_sized r f pk at seal j)
        (own_sized j) differ in
        record {
          layer = j;
          layer_legal = h;
          chain = c.0;
          chain_legal = c.1;
          digit = get_or (chain_digits r.n (checked j)) c.0 0;
          digit_is = refl;
          held_digit = get_or (chain_digits r.n (own j)) c.0 0;
          held_digit_is = refl;
          lower = c.2;
          starts = s.chain_at c.0 c.1;
          holder_shows =
              ap (piece r.n c.0) (held_part j h)
              ∙ holder_shows (under f pk) r.h' sk j (tree j) (leaf j) (own j) c.0 c.1;
        }

    one_layer : (j : ℕ) → j < r.d → (one_run j).result ≡ (tree_run j).result → Same j ⊎ Finding (one_run j)
    unfolding part_length
    one_layer j h e =
        then (found inl (layer_shows (under f pk) r.h' sk Own j (tree j) (leaf j) (layer_part j) (checked j)
        (owns_tree j h) (leaf_lt r legal f sk pk at p j) (part_long r legal (suc (suc j)) seal (omega arith) long) e))
        (λ s. decide s (bytes_discrete (checked j) (own j)))
      where
        decide : Shown j → Dec (checked j ≡ own j) → Same j ⊎ Finding (one_run j)
        decide s (yes q) =
            inl (q, s.whole ∙ ap (λ (x : Bytes). (layer_seal (under f pk) r.h' sk j (tree j) (leaf j) x).result) q)
        decide s (no q) = inr (inr (low j h s q))

    -- ---- The layers from layer j on, with `above` more above it

    abbrev rest : ℕ → Bytes
    rest j = drop (part_start r (suc (suc j))) seal

    abbrev up_run : (above j : ℕ) → Run Bytes
    up_run above j = layers_run r f pk at seal above j

    rest_long : (above j : ℕ) → j + above ≡ r.d - 1 → length (rest j) ≡ suc above * per_layer r
    unfolding part_start
    rest_long above j e =
        length-drop (part_start r (suc (suc j))) seal
        ∙ omega (arith, long, seal_parts r legal, layers_left, add-mul (suc j) above (per_layer r))
      where
        layers_left : (suc j + above) * per_layer r ≡ r.d * per_layer r
        layers_left = ap (λ (x : ℕ). x * per_layer r) (omega (arith, legal.some_layer))

    -- The topmost layer's part is all that is left of the seal.
    last_part : (j : ℕ) → j + 0 ≡ r.d - 1 → rest j ≡ layer_part j
    unfolding part part_length
    last_part j e = sym (take_all (per_layer r) (rest j) (omega (arith, rest_long 0 j e)))

    last_run : (j : ℕ) → j + 0 ≡ r.d - 1 → up_run 0 j ≡ one_run j
    unfolding layers_root
    last_run j e =
        ap (λ (x : Bytes). layer_root (under f pk) r.h' j (tree j) (leaf j) x (checked j)) (last_part j e)

    -- All layers from j on are the holder's.
    abbrev SameFrom : (above j : ℕ) → Type 0
    SameFrom above j = (checked j ≡ own j) × (rest j ≡ layers_from r legal f sk pk at p above j)

    same_last : (j : ℕ) → j + 0 ≡ r.d - 1 → Same j → SameFrom 0 j
    same_last j e s = (s.0, last_part j e ∙ s.1 ∙ sym (from_zero r legal f sk pk at p j))

    same_next : (above j : ℕ) → Same j → SameFrom above (suc j) → SameFrom (suc above) j
    unfolding part part_length
    same_next above j s q = (
      s.0,
      sym (take-append-drop (per_layer r) (rest j)) ∙ ap₂ ◌++◌ s.1 (next_part r j seal ∙ q.1)
          ∙ sym (from_suc r legal f sk pk at p above j),
    )

    -- The own root of the topmost layer is the key's.
    top_root : (j : ℕ) → j + 0 ≡ r.d - 1 → (key_root r f sk pk).result ≡ (tree_run j).result
    unfolding key_root
    top_root j e =
        ap₂ (λ x y. (own_root (under f pk) r.h' sk x y).result) (omega arith) (sym (zero_tree r.h' (tree j) lt))
      where
        none_above : r.d - 1 - j ≡ 0
        none_above = omega arith

        lt : tree j < 2 ^ (r.h' * 0)
        lt = rw none_above at (tree_at_lt r.h' at.tree (r.d - 1) j (omega arith) p.tree_lt)

    layers_show : (above j : ℕ) → j + above ≡ r.d - 1 → (up_run above j).result ≡ (key_root r f sk pk).result
        → SameFrom above j ⊎ Finding (up_run above j)
    unfolding checked_value held_value
    layers_show zero j e leads =
        rw (last_run j e)
        (then (one_layer j (omega (arith, legal.some_layer))
        (ap (λ x. x.result) (sym (last_run j e)) ∙ leads ∙ top_root j e)) (λ s.
        inl (same_last j e s)))
    layers_show (suc above) j e leads =
        rw (next_run r f pk at seal above j)
        (then (found (either (after (one_run j).calls) (λ x. x)) (layers_show above (suc j) (omega arith)
        (ap (λ x. x.result) (sym (next_run r f pk at seal above j)) ∙ leads))) (λ q.
        then (found (either (before (up_run above (suc j)).calls) (λ x. x))
        (one_layer j (omega (arith, legal.some_layer)) q.0)) (λ s.
        inl (same_next above j s q))))

  -- ---- The whole check

  module _ (M seal : Bytes) where
    abbrev at : Pointed
    at = points_to r f sk pk M seal

    abbrev held : Bytes
    held = holders r f sk pk M seal

    in_key : Inside r at
    unfolding points_to
    in_key = points_inside r legal _

    holders_is : held ≡ part r 0 seal ++ (written r f sk pk at).result
    unfolding holders points_to seal_with
    holders_is = refl

    -- Every call of the own forest is the key's own.
    owns_forest : Owns Own (own_forest (under f pk) at.tree at.leaf r.a sk r.k)
    owns_forest c m =
        of_forest at.tree at.leaf (rw (heights r legal) in_key.tree_lt) in_key.leaf_lt m

    -- A seal is its randomizer, its forest's part and its layers.
    seal_split : seal ≡ part r 0 seal ++ (part r 1 seal ++ drop (part_start r 2) seal)
    unfolding part part_start part_length
    seal_split =
        sym (take-append-drop r.n seal)
        ∙ ap (λ (x : Bytes). take r.n seal ++ x) (sym (take-append-drop (per_forest r) (drop r.n seal))
        ∙ ap (λ (x : Bytes). take (per_forest r) (drop r.n seal) ++ x)
        (drop_to r.n (per_forest r) (part_start r 2) seal (omega arith)))

    -- What is the holder's in the forest and in the layers is the holder's seal.
    whole : part r 1 seal ≡ (forest_seal (under f pk) at.tree at.leaf r.a sk 0 at.indices).result
        → drop (part_start r 2) seal ≡ layers_from r legal f sk pk at in_key (r.d - 1) 0 → seal ≡ held
    whole a b =
        seal_split ∙ ap (λ (x : Bytes). part r 0 seal ++ x) (ap₂ ◌++◌ a b ∙ sym (written_is r legal f sk pk at in_key))
        ∙ sym holders_is

    abbrev digest_run : Run Bytes
    digest_run = digest_of r f (part r 0 seal) pk (key_root r f sk pk).result M

    abbrev walk_run : Run Bytes
    walk_run = forest_run r f pk at seal >>= λ _. layers_run r f pk at seal (r.d - 1) 0

    module _ (pk_long : length pk ≡ r.n) (accepted : Accepted r f (public_key r f sk pk) M seal) where
      randomizer_long : length (part r 0 seal) ≡ r.n
      unfolding part_length
      randomizer_long = part_long r legal 0 seal (omega arith) accepted.long

      held_part : (j : ℕ) → j < r.d → part r (suc (suc j)) held ≡ held_layer r legal f sk pk at in_key j
      held_part j h =
          ap (part r (suc (suc j))) holders_is
          ∙ part_layer r legal f sk pk at in_key (part r 0 seal) randomizer_long j h

      -- The check is the digest, the forest and the layers.
      check_run : checked_root r f (public_key r f sk pk) M seal ≡ (digest_run >>= λ _. walk_run)
      unfolding points_to
      check_run = checked_is r f sk pk M seal pk_long ∙ ap (λ x. digest_run >>= λ _. x) (root_run r f pk at seal)

      leads : walk_run.result ≡ (key_root r f sk pk).result
      leads = ap (λ x. x.result) (sym check_run) ∙ accepted.same_root ∙ public_root r f sk pk pk_long

      search : (seal ≡ held) ⊎ (Collision (under f pk) Own walk_run.calls ⊎ LowStart r f pk at sk seal held)
      unfolding part_length checked_value held_value tree_at leaf_at
      search =
          then (found (either (after (forest_run r f pk at seal).calls) (λ x. x))
          (layers_show at in_key seal held accepted.long held_part (r.d - 1) 0 (zero-add (r.d - 1)) leads)) (λ q.
          then (found (λ c. inl (before (layers_run r f pk at seal (r.d - 1) 0).calls c))
          (forest_shows (under f pk) sk at.tree at.leaf r.a Own r.k at.indices (part r 1 seal)
          in_key.indices_below in_key.indices_long owns_forest
          (part_long r legal 1 seal (omega arith) accepted.long) q.0)) (λ s.
          inl (whole s q.1)))

      answer : (seal ≡ held) ⊎ (Collision (under f pk) Own walk_run.calls ⊎ LowStart r f pk at sk seal held)
          → OneOfThree r f sk pk M seal
      answer (inl q) = own_seal q
      answer (inr (inl c)) =
          collision (subst (λ x. Collision (under f pk) Own x.calls) (sym check_run) (after digest_run.calls c))
      answer (inr (inr l)) = low_start l

      pub one_of_three : OneOfThree r f sk pk M seal
      one_of_three = answer search
