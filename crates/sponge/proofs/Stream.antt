-- Bytes fed or drawn in pieces are those of the whole at any rate r, and an early turn is none too many: by induction
-- on the bytes.
-- Assumes nothing.
use mathlib.Core.Path.{◌≡◌, refl, sym, ap, ap₂, ◌∙◌}
use Prim.Native.Nat.{ℕ, zero, suc, ◌+◌, ◌-◌, ◌%◌, ◌≤◌, ◌<◌}
use mathlib.Core.List.{List, [], ◌∷◌, ◌++◌}
use native.Mathlib.Omega.{arith}
use native.Mathlib.Nat.{add-zero, zero-add, suc-add, lt_of_not-le, mod-lt}
use native.Mathlib.Decide.{dec_le}
use lib.ListN.{length, take}
use lib.Seq.{take_at}
use borrow.Author.Tests.{le-leb, lt-leb}
use Rattle.lists.specs.Below.{Below}
use Rattle.lists.proofs.Below.{below_nil, below_cons}
use Rattle.keccak.specs.Keccak.{keccak_f}
use Rattle.sponge.specs.Stream.{Sponge, sponge, byte_of, turn, step, put, feed, past, draw, drawn}

module _ (r : ℕ) where
  -- Past the rate a turn permutes.
  pub turn_yes : (k : Sponge) → r ≤ k.at → turn r k ≡ sponge (keccak_f k.lanes) 0
  unfolding turn
  turn_yes k h = rw (le-leb r k.at h)

  -- Below the rate a turn does nothing.
  pub turn_no : (k : Sponge) → k.at < r → turn r k ≡ k
  unfolding turn
  turn_no k h = rw (lt-leb r k.at h)

  turn_turn : 0 < r → (k : Sponge) → turn r (turn r k) ≡ turn r k
  turn_turn p k =
      elim (dec_le r k.at) [
        | yes h ↦ rw (turn_yes k h) (turn_no (sponge (keccak_f k.lanes) 0) p)
        | no h ↦ ap (turn r) (turn_no k (lt_of_not-le h))
      ]

  -- Pieces fed one after another are fed as one.
  pub feed_append : (k : Sponge) (a b : List ℕ) → feed r k (a ++ b) ≡ feed r (feed r k a) b
  unfolding feed
  feed_append k [] b = refl
  feed_append k (x ∷ a) b = feed_append (put r k x) a b

  -- A turn before some bytes changes nothing.
  pub feed_turn : 0 < r → (k : Sponge) (m : List ℕ) → 0 < length m → feed r (turn r k) m ≡ feed r k m
  unfolding feed put
  feed_turn p k [] h = absurd (omega arith)
  feed_turn p k (b ∷ m) h = ap (λ (t : Sponge). feed r (step (b % 256) t) m) (turn_turn p k)

  -- Nor does one before any bytes, if one comes after them.
  pub turn_feed : 0 < r → (k : Sponge) (m : List ℕ) → turn r (feed r (turn r k) m) ≡ turn r (feed r k m)
  unfolding feed
  turn_feed p k [] = turn_turn p k
  turn_feed p k (b ∷ m) = ap (turn r) (feed_turn p k (b ∷ m) (omega arith))

  drawn_turn : 0 < r → (n : ℕ) (k : Sponge) → 0 < n → drawn r n (turn r k) ≡ drawn r n k
  unfolding drawn
  drawn_turn p zero k h = absurd (omega arith)
  drawn_turn p (suc n) k h = ap (λ (t : Sponge). drawn r n (past t)) (turn_turn p k)

  -- Nor does one before bytes that come out.
  pub draw_turn : 0 < r → (n : ℕ) (k : Sponge) → 0 < n → draw r n (turn r k) ≡ draw r n k
  unfolding draw
  draw_turn p zero k h = absurd (omega arith)
  draw_turn p (suc n) k h = ap (λ (t : Sponge). byte_of t.lanes t.at ∷ draw r n (past t)) (turn_turn p k)

  -- Bytes drawn in two pieces are those drawn in one.
  pub drawn_add : (i n : ℕ) (k : Sponge) → drawn r (i + n) k ≡ drawn r n (drawn r i k)
  unfolding drawn
  drawn_add zero n k = ap (λ (m : ℕ). drawn r m k) (zero-add n)
  drawn_add (suc i) n k = ap (λ (m : ℕ). drawn r m k) (suc-add i n) ∙ drawn_add i n (past (turn r k))

  pub draw_add : (i n : ℕ) (k : Sponge) → draw r (i + n) k ≡ draw r i k ++ draw r n (drawn r i k)
  unfolding draw drawn
  draw_add zero n k = ap (λ (m : ℕ). draw r m k) (zero-add n)
  draw_add (suc i) n k =
      ap (λ (m : ℕ). draw r m k) (suc-add i n)
      ∙ ap (λ (l : List ℕ). byte_of (turn r k).lanes (turn r k).at ∷ l) (draw_add i n (past (turn r k)))

  -- Up to the rate only the place moves.
  pub drawn_in : (n : ℕ) (s : List ℕ) (p : ℕ) → p + n ≤ r → drawn r n (sponge s p) ≡ sponge s (p + n)
  unfolding drawn past
  drawn_in zero s p h = ap (sponge s) (sym (add-zero p))
  drawn_in (suc n) s p h =
      let e : p + 1 + n ≡ p + suc n = omega arith in
      ap (λ (k : Sponge). drawn r n (past k)) (turn_no (sponge s p) (omega arith)) ∙ drawn_in n s (p + 1) (omega arith)
      ∙ ap (sponge s) e

  -- A turn and the next n bytes.
  pub drawn_next : {x y z : Sponge} → 0 < r → (k : Sponge) (i n : ℕ) → 0 < n
      → x ≡ drawn r i k → y ≡ turn r x → z ≡ drawn r n y → z ≡ drawn r (i + n) k
  drawn_next q k i n hn ex ey ez =
      ez ∙ ap (drawn r n) (ey ∙ ap (turn r) ex) ∙ drawn_turn q n (drawn r i k) hn ∙ sym (drawn_add i n k)

  -- The next n bytes behind those before.
  pub draw_next : {x y : Sponge} {a b : List ℕ} → 0 < r → (k : Sponge) (i n : ℕ) → 0 < n
      → x ≡ drawn r i k → y ≡ turn r x → a ≡ draw r i k → b ≡ a ++ draw r n y → b ≡ draw r (i + n) k
  draw_next q k i n hn ex ey ea eb =
      eb ∙ ap₂ (λ (u v : List ℕ). u ++ v) ea (ap (draw r n) (ey ∙ ap (turn r) ex) ∙ draw_turn q n (drawn r i k) hn)
      ∙ sym (draw_add i n k)

  -- Below the rate the next byte is that at the place.
  pub draw_step : (s : List ℕ) (p n : ℕ) → p < r
      → draw r (suc n) (sponge s p) ≡ byte_of s p ∷ draw r n (sponge s (p + 1))
  unfolding draw past
  draw_step s p n h = ap (λ (k : Sponge). byte_of k.lanes k.at ∷ draw r n (past k)) (turn_no (sponge s p) h)

  -- As many bytes come as are drawn.
  pub length-draw : (n : ℕ) (k : Sponge) → length (draw r n k) ≡ n
  unfolding draw
  length-draw zero k = refl
  length-draw (suc n) k = ap suc (length-draw n (past (turn r k)))

  -- Fewer bytes are the first of more.
  pub draw_front : (n m : ℕ) (k : Sponge) → n ≤ m → draw r n k ≡ take n (draw r m k)
  draw_front n m k h =
      let e : m ≡ n + (m - n) = omega arith in
      sym (ap (λ (x : ℕ). take n (draw r x k)) e ∙ ap (take n) (draw_add n (m - n) k)
      ∙ take_at (draw r n k) (draw r (m - n) (drawn r n k)) n (length-draw n k))

  -- What comes out is bytes.
  pub below_draw : (n : ℕ) (k : Sponge) → Below 256 (draw r n k)
  unfolding draw byte_of
  below_draw zero k = below_nil 256 (omega arith)
  below_draw (suc n) k =
      below_cons 256 _ (draw r n (past (turn r k))) (mod-lt _ (omega arith)) (below_draw n (past (turn r k)))
