-- Two places of a key with one address are one place: the six words are read back from their bytes, and the place from
-- its words.
-- Assumes nothing.
use mathlib.Core.Path.{◌≡◌, refl, sym, ap, ◌∙◌}
use mathlib.Core.List.{◌++◌}
use mathlib.Core.Option.{some}
use Prim.Native.Nat.{ℕ, zero, suc, ◌-◌, ◌*◌, ◌^◌, ◌≤◌, ◌<◌}
use native.Mathlib.Nat.{lt_of_lt_of_le, le_trans, mul-le-mul_left, mul-suc, sub-le}
use native.Mathlib.Omega.{arith}
use lib.Dec.{T, leb, ltb, leb→le, ltb→lt}
use lib.Pow.{pow_mono}
use Rattle.lists.proofs.Parts.{append_inj}
use Rattle.rules.specs.Digits.{to_byte}
use Rattle.rules.specs.Places.{Bytes, Place, chain_step, chain_ends, tree_node, forest_node, forest_roots, chain_secret}
use Rattle.rules.specs.Places.{forest_secret, address, words}
use Rattle.rules.specs.Chains.{chains}
use Rattle.rules.specs.Sets.{Row, Legal, rows, every, row_of}
use Rattle.rules.proofs.DigitLaws.{length_digits, digits_inj}
use Rattle.rules.proofs.SetLaws.{checksum_fits, left_half, right_half, row_of_passes}
use Rattle.labels.specs.Labels.{LegalTree, LegalPlace, InWords, in_words}

-- ---- The words of a place

record Words : Type 0 where
  layer : ℕ
  tree : ℕ
  type : ℕ
  a : ℕ
  b : ℕ
  c : ℕ

abbrev six : (layer tree type a b c : ℕ) → Words
six l t y a b c = record { layer = l; tree = t; type = y; a = a; b = b; c = c }

abbrev words_of : Place → Words
words_of (chain_step l t p c s) = six l t 0 p c s
words_of (chain_ends l t p) = six l t 1 p 0 0
words_of (tree_node l t z i) = six l t 2 0 z i
words_of (forest_node t p z i) = six 0 t 3 p z i
words_of (forest_roots t p) = six 0 t 4 p 0 0
words_of (chain_secret l t p c) = six l t 5 p c 0
words_of (forest_secret t p i) = six 0 t 6 p 0 i

-- The place, read back from its words.
by_type : (y l t a b c : ℕ) → Place
by_type zero l t a b c = chain_step l t a b c
by_type (suc zero) l t a b c = chain_ends l t a
by_type (suc (suc zero)) l t a b c = tree_node l t b c
by_type (suc (suc (suc zero))) l t a b c = forest_node t a b c
by_type (suc (suc (suc (suc zero)))) l t a b c = forest_roots t a
by_type (suc (suc (suc (suc (suc zero))))) l t a b c = chain_secret l t a b
by_type (suc (suc (suc (suc (suc (suc y)))))) l t a b c = forest_secret t a c

place_of : Words → Place
place_of x = by_type x.type x.layer x.tree x.a x.b x.c

read_back : (p : Place) → place_of (words_of p) ≡ p
unfolding place_of by_type
read_back (chain_step l t p c s) = refl
read_back (chain_ends l t p) = refl
read_back (tree_node l t z i) = refl
read_back (forest_node t p z i) = refl
read_back (forest_roots t p) = refl
read_back (chain_secret l t p c) = refl
read_back (forest_secret t p i) = refl

abbrev bytes_of : Words → Bytes
bytes_of x = words x.layer x.tree x.type x.a x.b x.c

address_is : (p : Place) → address p ≡ bytes_of (words_of p)
unfolding address
address_is (chain_step l t p c s) = refl
address_is (chain_ends l t p) = refl
address_is (tree_node l t z i) = refl
address_is (forest_node t p z i) = refl
address_is (forest_roots t p) = refl
address_is (chain_secret l t p c) = refl
address_is (forest_secret t p i) = refl

-- ---- The words, read back from their bytes

record Fit (x : Words) : Type 0 where
  layer_fits : x.layer < 2 ^ 32
  tree_fits : x.tree < 2 ^ 96
  type_fits : x.type < 2 ^ 32
  a_fits : x.a < 2 ^ 32
  b_fits : x.b < 2 ^ 32
  c_fits : x.c < 2 ^ 32

-- Of equal strings that begin with a number in n bytes, the numbers are equal, and so is what follows.
split : (n x y : ℕ) {s t : Bytes} → x < 2 ^ (8 * n) → y < 2 ^ (8 * n) → to_byte x n ++ s ≡ to_byte y n ++ t
    → (x ≡ y) × (s ≡ t)
split n x y hx hy e =
    let q = append_inj (length_digits 8 n x) (length_digits 8 n y) e in
    (digits_inj 8 n x y hx hy q.0, q.1)

words_inj : (x y : Words) → Fit x → Fit y → bytes_of x ≡ bytes_of y → x ≡ y
unfolding words
words_inj x y hx hy e =
    let q1 = split 4 x.layer y.layer hx.layer_fits hy.layer_fits e in
    let q2 = split 12 x.tree y.tree hx.tree_fits hy.tree_fits q1.1 in
    let q3 = split 4 x.type y.type hx.type_fits hy.type_fits q2.1 in
    let q4 = split 4 x.a y.a hx.a_fits hy.a_fits q3.1 in
    let q5 = split 4 x.b y.b hx.b_fits hy.b_fits q4.1 in
    let q6 = digits_inj 8 4 x.c y.c hx.c_fits hy.c_fits q5.1 in
    λ i. record { layer = q1.0 i; tree = q2.0 i; type = q3.0 i; a = q4.0 i; b = q5.0 i; c = q6 i }

-- ---- The words of a legal place fit

module _ (r : Row) (legal : Legal r) (room : InWords r) where
  layer_fits : {l : ℕ} → l < r.d → l < 2 ^ 32
  layer_fits h = omega (arith, h, room.layers)

  forest_tree_fits : {t : ℕ} → t < 2 ^ (r.h - r.h') → t < 2 ^ 96
  forest_tree_fits h = lt_of_lt_of_le h (pow_mono room.trees)

  -- No layer has more trees than layer 0.
  tree_fits : {l t : ℕ} → LegalTree r l t → t < 2 ^ 96
  tree_fits {l} {t} h = forest_tree_fits (lt_of_lt_of_le h.tree_lt (pow_mono fewer))
    where
      fewer : r.h' * (r.d - suc l) ≤ r.h - r.h'
      fewer =
          omega (
            arith,
            legal.layers,
            mul-suc r.h' (r.d - suc l),
            mul-le-mul_left r.h' up,
          )
        where
          up : suc (r.d - suc l) ≤ r.d
          up = omega (arith, h.layer_lt)

  pair_fits : {p : ℕ} → p < 2 ^ r.h' → p < 2 ^ 32
  pair_fits h = lt_of_lt_of_le h (pow_mono room.pairs)

  chain_fits : {c : ℕ} → c < chains r.n → c < 2 ^ 32
  chain_fits h = omega (arith, h, checksum_fits r legal)

  fit : (p : Place) → LegalPlace r p → Fit (words_of p)
  fit (chain_step l t p c s) h = record {
    layer_fits = layer_fits h.0.of_tree.layer_lt;
    tree_fits = tree_fits h.0.of_tree;
    type_fits = omega arith;
    a_fits = pair_fits h.0.pair_lt;
    b_fits = chain_fits h.1;
    c_fits = omega (arith, h.2);
  }
  fit (chain_ends l t p) h = record {
    layer_fits = layer_fits h.of_tree.layer_lt;
    tree_fits = tree_fits h.of_tree;
    type_fits = omega arith;
    a_fits = pair_fits h.pair_lt;
    b_fits = omega arith;
    c_fits = omega arith;
  }
  fit (tree_node l t z i) h = record {
    layer_fits = layer_fits h.0.layer_lt;
    tree_fits = tree_fits h.0;
    type_fits = omega arith;
    a_fits = omega arith;
    b_fits = omega (arith, h.2, room.pairs);
    c_fits = pair_fits (lt_of_lt_of_le h.3 (pow_mono (sub-le r.h' z)));
  }
  fit (forest_node t p z i) h = record {
    layer_fits = omega arith;
    tree_fits = forest_tree_fits h.0.tree_lt;
    type_fits = omega arith;
    a_fits = pair_fits h.0.pair_lt;
    b_fits = omega (arith, h.1, room.heights);
    c_fits = lt_of_lt_of_le h.2 (le_trans (mul-le-mul_left r.k (pow_mono (sub-le r.a z))) room.indices);
  }
  fit (forest_roots t p) h = record {
    layer_fits = omega arith;
    tree_fits = forest_tree_fits h.tree_lt;
    type_fits = omega arith;
    a_fits = pair_fits h.pair_lt;
    b_fits = omega arith;
    c_fits = omega arith;
  }
  fit (chain_secret l t p c) h = record {
    layer_fits = layer_fits h.0.of_tree.layer_lt;
    tree_fits = tree_fits h.0.of_tree;
    type_fits = omega arith;
    a_fits = pair_fits h.0.pair_lt;
    b_fits = chain_fits h.1;
    c_fits = omega arith;
  }
  fit (forest_secret t p i) h = record {
    layer_fits = omega arith;
    tree_fits = forest_tree_fits h.0.tree_lt;
    type_fits = omega arith;
    a_fits = pair_fits h.0.pair_lt;
    b_fits = omega arith;
    c_fits = lt_of_lt_of_le h.1 room.indices;
  }

  -- Two legal places of a row with one address are one place.
  pub address_injective : (p q : Place) → LegalPlace r p → LegalPlace r q → address p ≡ address q → p ≡ q
  address_injective p q hp hq e =
      sym (read_back p)
      ∙ ap place_of (words_inj (words_of p) (words_of q) (fit p hp) (fit q hq) (sym (address_is p) ∙ e ∙ address_is q))
      ∙ read_back q

-- ---- Every row of the table has room

room_of : (r : Row) → T (in_words r) → InWords r
unfolding in_words
room_of r t =
    let t1 = right_half (leb r.d (2 ^ 32)) _ t in
    let t2 = right_half (leb (r.h - r.h') 96) _ t1 in
    let t3 = right_half (leb r.h' 32) _ t2 in
    record {
      layers = leb→le _ _ (left_half (leb r.d (2 ^ 32)) _ t);
      trees = leb→le _ _ (left_half (leb (r.h - r.h') 96) _ t1);
      pairs = leb→le _ _ (left_half (leb r.h' 32) _ t2);
      heights = ltb→lt _ _ (left_half (ltb r.a (2 ^ 32)) _ t3);
      indices = leb→le _ _ (right_half (ltb r.a (2 ^ 32)) _ t3);
    }

every_row : T (every in_words rows)
unfolding rows every in_words
every_row = tt

-- The words hold every place of a row that is found.
pub row_of_in_words : (number : ℕ) (r : Row) → row_of number ≡ some r → InWords r
row_of_in_words number r e = room_of r (row_of_passes in_words every_row number r e).1
