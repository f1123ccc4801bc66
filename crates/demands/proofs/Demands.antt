-- What the examiner asked for, of each of the desk's promises: demands 1 to 3, single outcomes, and the F count.
-- The demands' own words stand in quotation marks. Every theorem holds for whatever bytes and lengths were handed over.
-- Assumes nothing.
use mathlib.Core.Path.{◌≡◌, refl, sym, ap, ap₂, ◌∙◌, subst}
use mathlib.Core.Logic.Iff
use mathlib.Core.Logic.{◌↔◌, ◌≢◌, ◌⊎◌, inl, inr}
use mathlib.Core.Bool.{true}
use mathlib.Core.List.{List, []}
use mathlib.Core.Option.{Option, some, none}
use Prim.Native.Nat.{ℕ, ◌+◌, ◌*◌, ◌≤◌, ◌<◌}
use native.Mathlib.Nat.{not-le_of_lt}
use native.Mathlib.Omega.{arith}
use lib.ListN.{length, take, drop}
use Rattle.rules.specs.Places.{Bytes}
use Rattle.rules.specs.Calls.{F, of, Call, address_of}
use Rattle.rules.specs.Chains.{chain_digits}
use Rattle.rules.specs.Sets.{Row, rows, row_of}
use Rattle.rules.specs.Keys.{public_key, secret_key}
use Rattle.rules.specs.Seal.{plain, frame, seal_of, part}
use Rattle.rules.specs.Check.{checked_root, Accepted}
use Rattle.findings.specs.Findings.{OneOfThree, OwnCall}
use Rattle.counts.specs.Counts.{count, cost, f_calls, calls_by_cost}
use Rattle.rules.proofs.KeyLaws.{public_key_long}
use Rattle.rules.proofs.Accepts.{accepts}
use Rattle.findings.proofs.OneOfThree.{one_of_three}
use Rattle.counts.proofs.CountLaws.{f_calls_lem}
use Rattle.counts.proofs.CostLaws.{by_cost, f_least, f_greatest}
use Rattle.rules.proofs.SetLaws.{row_of_legal}
use Rattle.labels.proofs.AddressLaws.{row_of_in_words}
use Rattle.labels.proofs.OwnOnce.{own_once}
use Rattle.calls.specs.Hashes.{family_for}
use Rattle.answers.specs.Answers.{Answer, number}
use Rattle.answers.specs.Tests.{Under}
use Rattle.answers.specs.Lines.{Line, first, NoneApplies}
use Rattle.making.specs.Keys.{keys_lines, KeysMade}
use Rattle.sealing.specs.Seals.{seal_lines, Sealed}
use Rattle.checking.specs.Checks.{check_lines, check_answer, check_calls, Checked}
use Rattle.part_reading.specs.Parts.{part_lines, part_answer, part_given, start_given, length_given}
use Rattle.digit_reading.specs.Digits.{digits_lines, DigitsRead}
use Rattle.demands.specs.Table.{Given, Applies, applies, none_before, ordered, Unlisted, Fitting}
use Rattle.checking.specs.declared.Verdict.{Verdict}
use Rattle.part_reading.specs.declared.Extent.{Extent}
use Rattle.answers.proofs.TestLaws.{at_row}
use Rattle.answers.proofs.AnswerLaws.{settled_made, settled_kept, number_injective}
use Rattle.checking.proofs.CheckingLaws.{walked_calls, no_calls}
use Rattle.part_reading.proofs.PartLaws.{part_cut, extent_inside}
use Rattle.demands.proofs.RowLaws.{found, mapped, no_row}
use Rattle.demands.proofs.GivenLaws.{answer_given, answer_computed, done_when}

-- ==== Demand 1

-- Of lines in the paper's order, the number of the first that applies is the one that the table gives.
pub given : (ls : List Line) → ordered ls ≡ true → (c : ℕ) → (first ls ≡ c) ↔ Given (λ k. applies ls k ≡ true) c
given = answer_computed

-- Line 1 of the table applies exactly when the set number is none of the table of sets.
pub unknown_set : (set : ℕ) → (row_of set ≡ none) ↔ Unlisted set rows
unknown_set = no_row

-- ---- Key making

module _ (set : ℕ) (sk_seed sk_prf pk_seed public secret : Bytes) (a : Answer) (public-after secret-after : Bytes)
    (made : KeysMade (row_of set) sk_seed sk_prf pk_seed public secret a public-after secret-after) where
  abbrev keys_lines_lem : List Line
  keys_lines_lem =
      keys_lines (row_of set) (length sk_seed) (length sk_prf) (length pk_seed) (length public) (length secret)

  -- "gives a numbered refusal exactly when the paper says so"
  pub keys_answer_lem : (c : ℕ) → (number a ≡ c) ↔ Given (Applies keys_lines_lem) c
  unfolding ordered none_before
  keys_answer_lem = answer_given keys_lines_lem refl (number a) made.answered

  -- The keys are made exactly when no line applies.
  pub keys_done : (number a ≡ 0) ↔ NoneApplies keys_lines_lem
  keys_done = done_when keys_lines_lem refl (number a) made.answered

  -- "A refusal changes no byte of any buffer."
  pub keys_kept : number a ≢ 0 → (public-after ≡ public) × (secret-after ≡ secret)
  keys_kept refused = (
    made.public_is ∙ settled_kept _ (row_of set) _ public (λ z. refused (made.answered ∙ z)),
    made.secret_is ∙ settled_kept _ (row_of set) _ secret (λ z. refused (made.answered ∙ z)),
  )

-- ---- Sealing

module _ (set : ℕ) (secret message random out : Bytes) (a : Answer) (out-after : Bytes)
    (sealed : Sealed (row_of set) secret message random out a out-after) where
  abbrev seal_lines_lem : List Line
  seal_lines_lem = seal_lines (row_of set) (length secret) (length message) (length random) (length out)

  -- "gives a numbered refusal exactly when the paper says so"
  pub seal_answer_lem : (c : ℕ) → (number a ≡ c) ↔ Given (Applies seal_lines_lem) c
  unfolding ordered none_before
  seal_answer_lem = answer_given seal_lines_lem refl (number a) sealed.answered

  -- A seal is written exactly when no line applies.
  pub seal_done : (number a ≡ 0) ↔ NoneApplies seal_lines_lem
  seal_done = done_when seal_lines_lem refl (number a) sealed.answered

  -- "A refusal changes no byte of any buffer."
  pub seal_kept : number a ≢ 0 → out-after ≡ out
  seal_kept refused =
      sealed.out_is ∙ settled_kept _ (row_of set) _ out (λ z. refused (sealed.answered ∙ z))

-- ---- Checking, which is lent nothing to write to

module _ (set : ℕ) (public message seal : Bytes) (v : Verdict)
    (checked : Checked (row_of set) public message seal v) where
  -- "gives a numbered refusal exactly when the paper says so"; when it is 0, `accepted_exactly` says.
  pub check_answer_lem : (c : ℕ)
      → (number v.answer ≡ c) ↔ Given (Applies (check_lines (row_of set) public message seal)) c
  unfolding ordered none_before
  check_answer_lem =
      answer_given (check_lines (row_of set) public message seal) refl (number v.answer) checked.answered

-- ---- Part reading: its answer, and its part

module _ (set : ℕ) (seal : Bytes) (k : ℕ) (a : Answer) (answered : number a ≡ part_answer (row_of set) seal k) where
  -- "gives a numbered refusal exactly when the paper says so"
  pub part_answer_lem : (c : ℕ) → (number a ≡ c) ↔ Given (Applies (part_lines (row_of set) (length seal) k)) c
  unfolding ordered none_before
  part_answer_lem = answer_given (part_lines (row_of set) (length seal) k) refl (number a) answered

  -- A part is handed out exactly when no line applies.
  pub part_done : (number a ≡ 0) ↔ NoneApplies (part_lines (row_of set) (length seal) k)
  part_done = done_when (part_lines (row_of set) (length seal) k) refl (number a) answered

  -- "Part reading returns an empty part with every refusal"
  pub part_empty : (given-part : Bytes) → given-part ≡ part_given (row_of set) seal k → number a ≢ 0 → given-part ≡ []
  part_empty given-part read refused =
      read ∙ settled_kept _ (row_of set) _ [] (λ z. refused (answered ∙ z))

-- "A part is handed out as it lies in the seal": as many bytes as are told, from where it is told to start, and within
-- the seal; with a refusal none.
pub part_lies : (set : ℕ) (seal : Bytes) (k start long : ℕ) (given-part : Bytes)
    → start ≡ start_given (row_of set) seal k → long ≡ length_given (row_of set) seal k
    → given-part ≡ part_given (row_of set) seal k
    → (given-part ≡ take long (drop start seal)) × (start + long ≤ length seal)
part_lies set seal k start long given-part s l p = (
  p ∙ part_cut (row_of set) seal k ∙ ap₂ (λ (x y : ℕ). take x (drop y seal)) (sym l) (sym s),
  extent_inside set seal k s l,
)

-- ---- Chain digits

module _ (set : ℕ) (value : Bytes) (digits : List ℕ) (a : Answer) (digits-after : List ℕ)
    (read : DigitsRead (row_of set) value digits a digits-after) where
  -- "gives a numbered refusal exactly when the paper says so"
  pub digits_answer_lem : (c : ℕ)
      → (number a ≡ c) ↔ Given (Applies (digits_lines (row_of set) (length value) (length digits))) c
  unfolding ordered none_before
  digits_answer_lem =
      answer_given (digits_lines (row_of set) (length value) (length digits)) refl (number a) read.answered

  -- Digits are written exactly when no line applies.
  pub digits_done : (number a ≡ 0) ↔ NoneApplies (digits_lines (row_of set) (length value) (length digits))
  digits_done = done_when (digits_lines (row_of set) (length value) (length digits)) refl (number a) read.answered

  -- "A refusal changes no byte of any buffer."
  pub digits_kept : number a ≢ 0 → digits-after ≡ digits
  digits_kept refused =
      read.digits_are ∙ settled_kept _ (row_of set) _ digits (λ z. refused (read.answered ∙ z))

-- ==== Demand 2

-- "Keys and seals are byte for byte those of FIPS 205": where the answer is 0, the buffers hold the rules' bytes.
pub keys_are : (set : ℕ) (sk_seed sk_prf pk_seed public secret : Bytes) (a : Answer) (public-after secret-after : Bytes)
    → KeysMade (row_of set) sk_seed sk_prf pk_seed public secret a public-after secret-after → number a ≡ 0
    → Under (row_of set) (λ r.
    (public-after ≡ public_key r (family_for r) sk_seed pk_seed)
    × (secret-after ≡ secret_key r (family_for r) sk_seed sk_prf pk_seed))
keys_are set sk_seed sk_prf pk_seed public secret a public-after secret-after made done =
    found (row_of set) _
    ((keys_done set sk_seed sk_prf pk_seed public secret a public-after secret-after made).0 done).0
    (λ r e. (
      made.public_is ∙ settled_made _ (row_of set) _ public r (sym made.answered ∙ done) e,
      made.secret_is ∙ settled_made _ (row_of set) _ secret r (sym made.answered ∙ done) e,
    ))

pub seal_is : (set : ℕ) (secret message random out : Bytes) (a : Answer) (seal : Bytes)
    → Sealed (row_of set) secret message random out a seal → number a ≡ 0
    → Under (row_of set) (λ r. seal ≡ (seal_of r (family_for r) secret random (frame (plain [] message))).result)
seal_is set secret message random out a seal sealed done =
    found (row_of set) _ ((seal_done set secret message random out a seal sealed).0 done).0
    (λ r e. sealed.out_is ∙ settled_made _ (row_of set) _ out r (sym sealed.answered ∙ done) e)

-- The two readings: the part as it lies in the seal, and the digits with their checksum.
pub part_is : (set : ℕ) (seal : Bytes) (k : ℕ) (a : Answer) (given-part : Bytes)
    → number a ≡ part_answer (row_of set) seal k → given-part ≡ part_given (row_of set) seal k → number a ≡ 0
    → Under (row_of set) (λ r. given-part ≡ part r k seal)
part_is set seal k a given-part answered read done =
    found (row_of set) _ ((part_done set seal k a answered).0 done).0
    (λ r e. read ∙ settled_made _ (row_of set) _ [] r (sym answered ∙ done) e)

pub digits_are : (set : ℕ) (value : Bytes) (digits : List ℕ) (a : Answer) (digits-after : List ℕ)
    → DigitsRead (row_of set) value digits a digits-after → number a ≡ 0
    → Under (row_of set) (λ r. digits-after ≡ chain_digits r.n value)
digits_are set value digits a digits-after read done =
    found (row_of set) _ ((digits_done set value digits a digits-after read).0 done).0
    (λ r e. read.digits_are ∙ settled_made _ (row_of set) _ digits r (sym read.answered ∙ done) e)

-- "A check accepts exactly when set and lengths are legal and the root recomputed by FIPS 205 equals the key's."
pub accepted_exactly : (set : ℕ) (public message seal : Bytes) (v : Verdict)
    → Checked (row_of set) public message seal v
    → (number v.answer ≡ 0) ↔ Under (row_of set) (λ r.
    (length public ≡ r.public_bytes)
    × (Fitting message × Accepted r (family_for r) public (frame (plain [] message)) seal))
accepted_exactly set public message seal v checked =
    Iff.trans
    (done_when (check_lines (row_of set) public message seal) refl (number v.answer) checked.answered) (
      λ h. found (row_of set) _ h.0 (λ r e. (
        h.1.0 r e,
        (h.1.1.0, record { long = h.1.1.1.0 r e; same_root = h.1.1.1.1.0 r e }),
      )),
      λ u. let at = at_row (row_of set) _ in (
        (u.known, u.found),
        (
          λ r e. (at r e u).0,
          (u.holds.1.0, (λ r e. (at r e u).1.1.long, (λ r e. (at r e u).1.1.same_root, tt))),
        ),
      ),
    )

-- A key pair from key making, and its set.
module _ (set : ℕ) (sk_seed sk_prf pk_seed public-was secret-was : Bytes) (a : Answer) (public secret : Bytes)
    (made : KeysMade (row_of set) sk_seed sk_prf pk_seed public-was secret-was a public secret)
    (done : number a ≡ 0) where
  abbrev Pair : Row → Type 0
  Pair r =
      (public ≡ public_key r (family_for r) sk_seed pk_seed)
      × (secret ≡ secret_key r (family_for r) sk_seed sk_prf pk_seed)

  -- It is the rules' for the set.
  keys : Under (row_of set) Pair
  keys = keys_are set sk_seed sk_prf pk_seed public-was secret-was a public secret made done

  -- No line of key making applied, so the seeds have the set's length.
  none_applied : NoneApplies (keys_lines_lem set sk_seed sk_prf pk_seed public-was secret-was a public secret made)
  none_applied = (keys_done set sk_seed sk_prf pk_seed public-was secret-was a public secret made).0 done

  sk_long : (r : Row) → row_of set ≡ some r → length sk_seed ≡ r.n
  sk_long = none_applied.1.0

  prf_long : (r : Row) → row_of set ≡ some r → length sk_prf ≡ r.n
  prf_long = none_applied.1.1.0

  pk_long : (r : Row) → row_of set ≡ some r → length pk_seed ≡ r.n
  pk_long = none_applied.1.1.1.0

  -- "Every seal made with a secret key from our key making for the same set is accepted, for that message, under its
  -- public key."
  pub own_seals_accepted : (message random out : Bytes) (b : Answer) (seal : Bytes)
      → Sealed (row_of set) secret message random out b seal → number b ≡ 0
      → (v : Verdict) → Checked (row_of set) public message seal v → number v.answer ≡ 0
  own_seals_accepted message random out b seal sealed sealing-done v checked =
      (accepted_exactly set public message seal v checked).1
      (mapped (row_of set) _ _ (λ r e ks. (long r e ks, (fits, accepted r e ks))) keys)
    where
      fits : Fitting message
      fits = ((seal_done set secret message random out b seal sealed).0 sealing-done).1.1.1.0

      long : (r : Row) → row_of set ≡ some r → Pair r → length public ≡ r.public_bytes
      long r e ks =
          ap length ks.0
          ∙ public_key_long r (family_for r) sk_seed pk_seed (pk_long r e) (row_of_legal set r e).1

      accepted : (r : Row) → row_of set ≡ some r → Pair r
          → Accepted r (family_for r) public (frame (plain [] message)) seal
      accepted r e ks =
          rw (
            ks.0,
            at_row (row_of set) _ r e (seal_is set secret message random out b seal sealed sealing-done),
            ks.1,
          )
          (accepts r (family_for r) (row_of_legal set r e).1 sk_seed sk_prf pk_seed (sk_long r e)
          (prf_long r e) (pk_long r e) random (frame (plain [] message)))

  -- ==== Demand 3

  -- "Take a key pair made from given seeds, and any message and seal accepted under it and its set, whoever wrote the
  -- seal. Then one of three things can be pointed to. [...] There is no fourth case."
  pub accepted_is_one_of_three : (message seal : Bytes) (v : Verdict)
      → Checked (row_of set) public message seal v → number v.answer ≡ 0
      → Under (row_of set) (λ r. OneOfThree r (family_for r) sk_seed pk_seed (frame (plain [] message)) seal)
  accepted_is_one_of_three message seal v checked accepted =
      mapped (row_of set) _ _
      (λ r e q.
      one_of_three r (row_of_legal set r e).1 (family_for r) sk_seed pk_seed (frame (plain [] message)) seal
      (pk_long r e)
      (subst (λ (x : Bytes). Accepted r (family_for r) x (frame (plain [] message)) seal)
      (at_row (row_of set) _ r e keys).0 q.1.1))
      ((accepted_exactly set public message seal v checked).0 accepted)

-- "The key's own call is the F, H or T call that the rules make from the seeds at that address": there is one.
pub own_call_once : (set : ℕ) (r : Row) → row_of set ≡ some r → (sk_seed pk_seed : Bytes) (c e : Call)
    → OwnCall r (family_for r) sk_seed pk_seed c → OwnCall r (family_for r) sk_seed pk_seed e
    → address_of c.place ≡ address_of e.place → c ≡ e
own_call_once set r e sk_seed pk_seed =
    own_once r (family_for r) sk_seed pk_seed (row_of_legal set r e).1 (row_of_in_words set r e)

-- ==== "any pair of outcomes allowed by one promise is a single outcome"

pub single_keys : (set : ℕ) (sk_seed sk_prf pk_seed public secret : Bytes) (a b : Answer) (p q s t : Bytes)
    → KeysMade (row_of set) sk_seed sk_prf pk_seed public secret a p s
    → KeysMade (row_of set) sk_seed sk_prf pk_seed public secret b q t → (a ≡ b) × ((p ≡ q) × (s ≡ t))
single_keys set sk_seed sk_prf pk_seed public secret a b p q s t one other = (
  number_injective a b (one.answered ∙ sym other.answered),
  (one.public_is ∙ sym other.public_is, one.secret_is ∙ sym other.secret_is),
)

pub single_seal : (set : ℕ) (secret message random out : Bytes) (a b : Answer) (s t : Bytes)
    → Sealed (row_of set) secret message random out a s → Sealed (row_of set) secret message random out b t
    → (a ≡ b) × (s ≡ t)
single_seal set secret message random out a b s t one other =
    (number_injective a b (one.answered ∙ sym other.answered), one.out_is ∙ sym other.out_is)

pub single_check : (set : ℕ) (public message seal : Bytes) (v w : Verdict)
    → Checked (row_of set) public message seal v → Checked (row_of set) public message seal w → v ≡ w
single_check set public message seal v w one other = λ i. record { answer = same_answer i; calls = same_calls i }
  where
    same_answer : v.answer ≡ w.answer
    same_answer = number_injective v.answer w.answer (one.answered ∙ sym other.answered)

    same_calls : v.calls ≡ w.calls
    same_calls = one.counted ∙ sym other.counted

pub single_part : (set : ℕ) (seal : Bytes) (k : ℕ) (a b : Answer) (p q : Bytes)
    → number a ≡ part_answer (row_of set) seal k → number b ≡ part_answer (row_of set) seal k
    → p ≡ part_given (row_of set) seal k → q ≡ part_given (row_of set) seal k → (a ≡ b) × (p ≡ q)
single_part set seal k a b p q one other this that = (number_injective a b (one ∙ sym other), this ∙ sym that)

pub single_extent : (set : ℕ) (seal : Bytes) (k : ℕ) (p q : Extent)
    → (p.start ≡ start_given (row_of set) seal k) × (p.length ≡ length_given (row_of set) seal k)
    → (q.start ≡ start_given (row_of set) seal k) × (q.length ≡ length_given (row_of set) seal k) → p ≡ q
single_extent set seal k p q one other = λ i. record { start = same_start i; length = same_length i }
  where
    same_start : p.start ≡ q.start
    same_start = one.0 ∙ sym other.0

    same_length : p.length ≡ q.length
    same_length = one.1 ∙ sym other.1

pub single_digits : (set : ℕ) (value : Bytes) (digits : List ℕ) (a b : Answer) (p q : List ℕ)
    → DigitsRead (row_of set) value digits a p → DigitsRead (row_of set) value digits b q → (a ≡ b) × (p ≡ q)
single_digits set value digits a b p q one other =
    (number_injective a b (one.answered ∙ sym other.answered), one.digits_are ∙ sym other.digits_are)

-- ==== "The check also reports how many F calls it made"

module _ (set : ℕ) (public message seal : Bytes) (v : Verdict)
    (checked : Checked (row_of set) public message seal v) where
  -- The number in the list, with answers 0 and 5.
  calls_under : (r : Row) → row_of set ≡ some r → (number v.answer ≡ 0) ⊎ (number v.answer ≡ 5)
      → v.calls ≡ count (of F) (checked_root r (family_for r) public (frame (plain [] message)) seal).calls
  calls_under r e walked =
      checked.counted ∙ ap (λ (o : Option Row). check_calls o public message seal) e
      ∙ walked_calls (check_answer (some r) public message seal) _ (rw answer at walked)
    where
      answer : number v.answer ≡ check_answer (some r) public message seal
      answer = checked.answered ∙ ap (λ (o : Option Row). check_answer o public message seal) e

  -- "equal to the number of F calls in the definition's list of calls: k + the sum over all layers and chains of
  -- (15 - digit)": with answers 0 and 5. The same by checksums, and the least and the greatest number.
  pub calls_counted : (number v.answer ≡ 0) ⊎ (number v.answer ≡ 5)
      → Under (row_of set) (λ r.
      (v.calls ≡ count (of F) (checked_root r (family_for r) public (frame (plain [] message)) seal).calls)
      × ((v.calls ≡ f_calls r (family_for r) public (frame (plain [] message)) seal)
      × ((v.calls ≡ calls_by_cost r (family_for r) public (frame (plain [] message)) seal)
      × ((r.k + 45 * r.d ≤ v.calls) × (v.calls ≤ r.k + cost (30 * r.n) * r.d)))))
  unfolding first
  calls_counted walked =
      let (r, e) = known_row (row_of set) refl in
      let legal = (row_of_legal set r e).1 in
      let listed = calls_under r e walked in
      let summed = listed ∙ f_calls_lem r (family_for r) legal public (frame (plain [] message)) seal in
      let costed = summed ∙ by_cost r legal (family_for r) public (frame (plain [] message)) seal in
      let least = rw (← summed) at (f_least r legal (family_for r) public (frame (plain [] message)) seal) in
      let greatest = rw (← summed) at (f_greatest r legal (family_for r) public (frame (plain [] message)) seal) in
      record {
        known = r;
        found = e;
        holds = (listed, (summed, (costed, (least, greatest))));
      }
    where
      not_one : (number v.answer ≡ 0) ⊎ (number v.answer ≡ 5) → number v.answer ≢ 1
      not_one (inl z) one = absurd (omega arith)
      not_one (inr z) one = absurd (omega arith)

      -- Without a row the answer is 1.
      known_row : (row : Option Row) → row_of set ≡ row → (r : Row) × (row_of set ≡ some r)
      known_row (some r) e = (r, e)
      known_row none e =
          absurd (not_one walked
          (checked.answered ∙ ap (λ (o : Option Row). check_answer o public message seal) e))

  -- "Answers 1 to 4 report 0"
  pub calls_none : 0 < number v.answer → number v.answer < 5 → v.calls ≡ 0
  calls_none low high =
      checked.counted
      ∙ sym (no_calls (check_answer (row_of set) public message seal) _
      (λ z. not-le_of_lt low (omega (arith, checked.answered, z)))
      (λ z. not-le_of_lt high (omega (arith, checked.answered, z))))
