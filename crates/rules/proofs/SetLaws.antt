-- Every row of the table is legal: one test, worked out over the whole table, and one law that turns it into `Legal`;
-- and three digits hold a legal row's checksums.
-- Assumes nothing.
use mathlib.Core.Path.{◌≡◌, refl, sym, ap, ◌∙◌, subst}
use mathlib.Core.Bool.{Bool, true, false, not, ◌&&◌, cond}
use mathlib.Core.List.{List, [], ◌∷◌}
use mathlib.Core.Option.{some, none}
use Prim.Native.Nat.{ℕ, zero, suc, ◌+◌, ◌-◌, ◌*◌, ◌^◌, ◌<◌}
use native.Mathlib.Nat.{zero-lt-suc, one-le-pow, pow-suc}
use native.Mathlib.Omega.{arith}
use lib.Dec.{T, ltb, leb, eqb, ltb→lt, nleb→lt, eqb→eq}
use Rattle.rules.specs.Chains.{more_digits, checksum_digits}
use Rattle.rules.specs.Sets.{Row, Legal, bytes_for, rows, good, every, find, row_of}

-- The halves of a test that has two.
pub left_half : (a b : Bool) → T (a && b) → T a
left_half true b t = tt
left_half false b t = t

pub right_half : (a b : Bool) → T (a && b) → T b
right_half true b t = t
right_half false b t = absurd t

pub legal : (r : Row) → T (good r) → Legal r
unfolding good
legal r t =
    let t1 = right_half (eqb r.h (r.d * r.h')) _ t in
    let t2 = right_half (ltb 0 r.d) _ t1 in
    let t3 = right_half (eqb r.m (bytes_for (r.k * r.a) + (bytes_for (r.h - r.h') + bytes_for r.h'))) _ t2 in
    let t4 = right_half (eqb r.public_bytes (2 * r.n)) _ t3 in
    let t5 = right_half (eqb r.secret_bytes (4 * r.n)) _ t4 in
    record {
      layers = eqb→eq _ _ (left_half (eqb r.h (r.d * r.h')) _ t);
      some_layer = ltb→lt _ _ (left_half (ltb 0 r.d) _ t1);
      digest_long = eqb→eq _ _ (left_half (eqb r.m _) _ t2);
      public_long = eqb→eq _ _ (left_half (eqb r.public_bytes (2 * r.n)) _ t3);
      secret_long = eqb→eq _ _ (left_half (eqb r.secret_bytes (4 * r.n)) _ t4);
      seal_long = eqb→eq _ _ (left_half (eqb r.seal_bytes _) _ t5);
      checksum_digits_lem = eqb→eq _ _ (right_half (eqb r.seal_bytes _) _ t5);
    }

pub every_row : T (every good rows)
unfolding rows every good checksum_digits more_digits
every_row = tt

-- A row that is found has the number asked for, and passes every test that all rows pass.
found : (test : Row → Bool) (number : ℕ) (rs : List Row) (r : Row) → T (every test rs) → find number rs ≡ some r
    → (r.number ≡ number) × T (test r)
unfolding find every
found test number [] r t e = let z : ◌≡◌ {A = ℕ} 0 1 = cc in absurd (omega arith)
found test number (q ∷ rs) r t e =
    here (eqb number q.number) refl e (λ e'. found test number rs r (right_half (test q) (every test rs) t) e')
  where
    here : (b : Bool) → eqb number q.number ≡ b → cond b (some q) (find number rs) ≡ some r
        → (find number rs ≡ some r → (r.number ≡ number) × T (test r)) → (r.number ≡ number) × T (test r)
    here true h e' later =
        let same : q ≡ r = cc in (
          ap (λ (x : Row). x.number) (sym same) ∙ sym (eqb→eq number q.number (subst T (sym h) tt)),
          subst (λ (x : Row). T (test x)) same (left_half (test q) (every test rs) t),
        )
    here false h e' later = later e'

-- Past a row of another number the search goes on, and past the last there is none.
pub find_next : (number : ℕ) (q : Row) (rs : List Row) → (number ≡ q.number → ⊥)
    → find number (q ∷ rs) ≡ find number rs
unfolding find
find_next number q rs other = by_test (eqb number q.number) refl
  where
    by_test : (b : Bool) → eqb number q.number ≡ b → cond b (some q) (find number rs) ≡ find number rs
    by_test true h = absurd (other (eqb→eq number q.number (subst T (sym h) tt)))
    by_test false h = refl

pub row_of_passes : (test : Row → Bool) → T (every test rows) → (number : ℕ) (r : Row) → row_of number ≡ some r
    → (r.number ≡ number) × T (test r)
unfolding row_of
row_of_passes test t number r e = found test number rows r t e

-- A number below the capacity and the turns that are left has no more digits than algorithm 1 gives, since a turn
-- raises the capacity.
held : (turns len2 most : ℕ) → most < 16 ^ len2 + turns → most < 16 ^ more_digits turns len2 (16 ^ len2) most
unfolding more_digits
held zero len2 most h = omega (arith, h)
held (suc turns) len2 most h =
    by_test (leb (16 ^ len2) most) refl
    (rw (pow-suc 16 len2) at (held turns (suc len2) most (raised (one-le-pow len2 16 (zero-lt-suc 15)))))
  where
    raised : 0 < 16 ^ len2 → most < 16 ^ suc len2 + turns
    raised p = rw (pow-suc 16 len2) (omega (arith, h, p))

    by_test : (b : Bool) → leb (16 ^ len2) most ≡ b → most < 16 ^ more_digits turns (suc len2) (16 ^ len2 * 16) most
        → most < 16 ^ cond b (more_digits turns (suc len2) (16 ^ len2 * 16) most) len2
    by_test true e later = later
    by_test false e later = nleb→lt (16 ^ len2) most (subst (λ (b : Bool). T (not b)) (sym e) tt)

-- Three digits hold any checksum of a legal row.
pub checksum_fits : (r : Row) → Legal r → 30 * r.n < 16 ^ 3
unfolding checksum_digits
checksum_fits r legal =
    subst (λ (x : ℕ). 30 * r.n < 16 ^ x) legal.checksum_digits_lem (held (30 * r.n) 1 (30 * r.n) (omega arith))

pub row_of_legal : (number : ℕ) (r : Row) → row_of number ≡ some r → (r.number ≡ number) × Legal r
row_of_legal number r e =
    let f = row_of_passes good every_row number r e in
    (f.0, legal r f.1)
