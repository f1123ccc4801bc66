-- The starred cases of the paper, as one table of what is worked out and what it must be.
-- Assumes nothing.
use Rattle.std.specs.Prelude.{◌≡◌, List, [], ◌∷◌, ◌++◌, ℕ, ◌-◌, replicate}
use Rattle.std.proofs.Math.Option.{Option, some, none}
use Rattle.rules.specs.Digits.{base2b}
use Rattle.rules.specs.Places.{address, chain_step, chain_ends, tree_node, forest_node, forest_roots, chain_secret}
use Rattle.rules.specs.Places.{forest_secret}
use Rattle.rules.specs.Chains.{steps, checksum, chain_digits}
use Rattle.rules.specs.Sets.{Row, row_of}
use Rattle.rules.specs.Digest.{Pointed, last_bits, pointed}
use Rattle.rules.specs.Layers.{leaf_above, tree_above}

pub record Case : Type 0 where
  pub got : List ℕ
  pub want : List ℕ

-- The digits of a value of 16 bytes, and then the steps that a check walks for it.
abbrev pub walked : List ℕ → List ℕ
walked M = chain_digits 16 M ++ (steps (chain_digits 16 M) ∷ [])

-- What is worked out with the row of a set; nothing where there is none.
abbrev pub of_row : Option Row → (Row → List ℕ) → List ℕ
of_row none f = []
of_row (some r) f = f r

abbrev pub of_set : (number : ℕ) → (Row → List ℕ) → List ℕ
of_set number f = of_row (row_of number) f

-- A digest of set 1 in its three pieces, the bytes of the cases above and below, and all that it points to.
abbrev seven_times : List ℕ → List ℕ
seven_times x = x ++ (x ++ (x ++ (x ++ (x ++ (x ++ x)))))

abbrev digest : List ℕ
digest = seven_times (0xAB ∷ 0xCD ∷ 0xEF ∷ []) ++ (replicate 7 0xFF ++ (0xFE ∷ 0x05 ∷ []))

abbrev all : Pointed → List ℕ
all p = p.tree ∷ p.leaf ∷ p.indices

-- The 32 bytes of an address whose layer, tree, type and three words are below 256: figures 2 to 9.
abbrev word : ℕ → List ℕ
word x = 0x00 ∷ 0x00 ∷ 0x00 ∷ x ∷ []

abbrev figure : (layer tree type a b c : ℕ) → List ℕ
figure l t y a b c = word l ++ (replicate 8 0x00 ++ (word t ++ (word y ++ (word a ++ (word b ++ word c)))))

-- The seven lines with an address have the seven types, one each.
unfoldable pub table : List Case
table =
    record { got = base2b (0x12 ∷ 0x34 ∷ []) 4 4; want = 1 ∷ 2 ∷ 3 ∷ 4 ∷ [] }
    ∷ record { got = base2b (0xFC ∷ 0x0F ∷ []) 6 2; want = 63 ∷ 0 ∷ [] }
    ∷ record { got = base2b (0xAB ∷ 0xCD ∷ 0xEF ∷ []) 12 2; want = 2748 ∷ 3567 ∷ [] }
    ∷ record { got = walked (replicate 16 0); want = replicate 32 0 ++ (1 ∷ 14 ∷ 0 ∷ 510 ∷ []) }
    ∷ record { got = walked (replicate 16 0xFF); want = replicate 32 15 ++ (0 ∷ 0 ∷ 0 ∷ 45 ∷ []) }
    ∷ record { got = checksum 16 (0x01 ∷ replicate 15 0) ∷ []; want = 479 ∷ [] }
    ∷ record {
      got = walked (0x01 ∷ replicate 15 0);
      want = 0 ∷ 1 ∷ replicate 30 0 ++ (1 ∷ 13 ∷ 15 ∷ 495 ∷ []);
    }
    ∷ record { got = of_set 1 (λ r. last_bits (r.h - r.h') (replicate 7 0xFF) ∷ []); want = 18014398509481983 ∷ [] }
    ∷ record { got = of_set 1 (λ r. last_bits r.h' (0xFE ∷ 0x05 ∷ []) ∷ []); want = 5 ∷ [] }
    ∷ record {
      got = of_set 1 (λ r. all (pointed r digest));
      want = 18014398509481983 ∷ 5 ∷ seven_times (2748 ∷ 3567 ∷ []);
    }
    ∷ record { got = leaf_above 9 1029 ∷ tree_above 9 1029 ∷ []; want = 5 ∷ 2 ∷ [] }
    ∷ record { got = address (chain_step 6 5 3 34 14); want = figure 6 5 0 3 0x22 0x0E }
    ∷ record { got = address (chain_ends 6 5 3); want = figure 6 5 1 3 0 0 }
    ∷ record { got = address (tree_node 6 5 4 7); want = figure 6 5 2 0 4 7 }
    ∷ record { got = address (forest_node 5 3 4 7); want = figure 0 5 3 3 4 7 }
    ∷ record { got = address (forest_roots 5 3); want = figure 0 5 4 3 0 0 }
    ∷ record { got = address (chain_secret 6 5 3 34); want = figure 6 5 5 3 0x22 0 }
    ∷ record { got = address (forest_secret 5 3 7); want = figure 0 5 6 3 0 7 }
    ∷ []

-- In every case the two lists are equal.
abbrev pub Agree : List Case → Type 0
Agree [] = Unit {0}
Agree (c ∷ cs) = (c.got ≡ c.want) × Agree cs
