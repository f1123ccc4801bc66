-- "any pair of outcomes allowed by one promise is a single outcome": of a round, whose operations each settle what the
-- next begins with, and of the exported functions, whose numbers are those of answers.
-- Assumes nothing.
use mathlib.Core.Path.{◌≡◌, sym, ap, ◌∙◌, subst}
use mathlib.Core.List.{List}
use Prim.Native.Nat.{ℕ}
use Rattle.rules.specs.Places.{Bytes}
use Rattle.rules.specs.Sets.{row_of}
use Rattle.answers.specs.Answers.{Answer, number}
use Rattle.making.specs.Keys.{KeysMade}
use Rattle.sealing.specs.Seals.{Sealed}
use Rattle.checking.specs.Checks.{Checked}
use Rattle.checking.specs.declared.Verdict.{Verdict}
use Rattle.part_reading.specs.Parts.{part_answer, start_given, length_given}
use Rattle.digit_reading.specs.Digits.{DigitsRead}
use Rattle.demands.proofs.Demands.{single_keys, single_seal, single_check, single_digits}
use Rattle.round.specs.Round.{Rounded}
use Rattle.round.specs.declared.Round.{Round}
use Rattle.face.specs.Numbered.{Numbered, CheckedAs}

-- ---- A round

module _ (set : ℕ) (sk_seed sk_prf pk_seed message random public secret out : Bytes) (r q : Round)
    (p p' s s' o o' : Bytes)
    (one : Rounded (row_of set) sk_seed sk_prf pk_seed message random public secret out r p s o)
    (other : Rounded (row_of set) sk_seed sk_prf pk_seed message random public secret out q p' s' o') where
  keys : (r.made ≡ q.made) × ((p ≡ p') × (s ≡ s'))
  keys = single_keys set sk_seed sk_prf pk_seed public secret _ _ p p' s s' one.keys other.keys

  seal : (r.sealed ≡ q.sealed) × (o ≡ o')
  seal =
      single_seal set s message random out _ _ o o' one.seal
      (subst (λ (x : Bytes). Sealed (row_of set) x message random out q.sealed o') (sym keys.1.1) other.seal)

  abbrev verdict : Round → Verdict
  verdict x = record { answer = x.checked; calls = x.calls }

  check : verdict r ≡ verdict q
  check =
      single_check set p message o (verdict r) (verdict q) one.check
      (subst (λ (x : Bytes). Checked (row_of set) x message o (verdict q)) (sym keys.1.0)
      (subst (λ (x : Bytes). Checked (row_of set) p' message x (verdict q)) (sym seal.1) other.check))

  pub single_round : (r ≡ q) × ((p ≡ p') × ((s ≡ s') × (o ≡ o')))
  single_round = (same, (keys.1.0, (keys.1.1, seal.1)))
    where
      same : r ≡ q
      same = λ i. record {
        made = keys.0 i;
        sealed = seal.0 i;
        checked = (check i).answer;
        calls = (check i).calls;
      }

-- ---- The exported functions

-- Answers that are one have one number.
numbers : {x y : ℕ} {a b : Answer} → x ≡ number a → y ≡ number b → a ≡ b → x ≡ y
numbers e f g = e ∙ ap number g ∙ sym f

pub single_make_keys : (set : ℕ) (sk_seed sk_prf pk_seed public secret : Bytes) (x y : ℕ) (p q s t : Bytes)
    → Numbered x (λ a. KeysMade (row_of set) sk_seed sk_prf pk_seed public secret a p s)
    → Numbered y (λ a. KeysMade (row_of set) sk_seed sk_prf pk_seed public secret a q t)
    → (x ≡ y) × ((p ≡ q) × (s ≡ t))
single_make_keys set sk_seed sk_prf pk_seed public secret x y p q s t one other =
    let same = single_keys set sk_seed sk_prf pk_seed public secret _ _ p q s t one.promised other.promised in
    (numbers one.numbered other.numbered same.0, same.1)

pub single_seal_message : (set : ℕ) (secret message random out : Bytes) (x y : ℕ) (s t : Bytes)
    → Numbered x (λ a. Sealed (row_of set) secret message random out a s)
    → Numbered y (λ a. Sealed (row_of set) secret message random out a t) → (x ≡ y) × (s ≡ t)
single_seal_message set secret message random out x y s t one other =
    let same = single_seal set secret message random out _ _ s t one.promised other.promised in
    (numbers one.numbered other.numbered same.0, same.1)

pub single_check_seal : (set : ℕ) (public message seal : Bytes) (x y m n : ℕ)
    → Numbered x (λ a. CheckedAs (row_of set) public message seal a m)
    → Numbered y (λ a. CheckedAs (row_of set) public message seal a n) → (x ≡ y) × (m ≡ n)
single_check_seal set public message seal x y m n one other =
    let same = single_check set public message seal _ _ one.promised other.promised in (
      numbers one.numbered other.numbered (ap (λ (v : Verdict). v.answer) same),
      ap (λ (v : Verdict). v.calls) same,
    )

pub single_part_extent : (set : ℕ) (seal : Bytes) (k : ℕ) (x y start start' long long' : ℕ)
    → (x ≡ part_answer (row_of set) seal k) × ((start ≡ start_given (row_of set) seal k)
    × (long ≡ length_given (row_of set) seal k))
    → (y ≡ part_answer (row_of set) seal k) × ((start' ≡ start_given (row_of set) seal k)
    × (long' ≡ length_given (row_of set) seal k))
    → (x ≡ y) × ((start ≡ start') × (long ≡ long'))
single_part_extent set _ k x y start start' long long' one other =
    (one.0 ∙ sym other.0, (one.1.0 ∙ sym other.1.0, one.1.1 ∙ sym other.1.1))

pub single_chain_digits : (set : ℕ) (value : Bytes) (digits : List ℕ) (x y : ℕ) (p q : List ℕ)
    → Numbered x (λ a. DigitsRead (row_of set) value digits a p)
    → Numbered y (λ a. DigitsRead (row_of set) value digits a q) → (x ≡ y) × (p ≡ q)
single_chain_digits set value digits x y p q one other =
    let same = single_digits set value digits _ _ p q one.promised other.promised in
    (numbers one.numbered other.numbered same.0, same.1)
