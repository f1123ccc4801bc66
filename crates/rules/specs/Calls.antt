-- The hash functions, and computations that keep the list of the calls they made (FIPS 205, sections 4.1 and 11).
-- Assumes nothing.
use Rattle.std.specs.Prelude.{List, [], ◌∷◌, ◌++◌, ℕ}
use Rattle.std.proofs.Math.Option.{Option, some, none}
use Rattle.rules.specs.Places.{Bytes, IsBytes, Place, address}

-- The functions that take an address: F, H, T and PRF, which makes the secret values.
pub data Function : Type 0 where
  F H T PRF : Function

-- The kinds of call: one of those functions, the randomizer (PRFmsg) or the message digest (Hmsg).
pub data Kind : Type 0 where
  of : Function → Kind
  randomizer digest : Kind

-- A call: its kind, the place that it is made at (none for randomizer and digest) and its input.
pub record Call : Type 0 where
  pub kind : Kind
  pub place : Option Place
  pub input : Bytes

-- The bytes of its address: 32, or none where it has no place.
abbrev pub address_of : Option Place → Bytes
address_of none = []
address_of (some p) = address p

-- ---- Hash families

-- The functions of section 4.1 for outputs of n and m bytes. F, H, T and PRF take public seed, address and input.
pub record Family (n m : ℕ) : Type 0 where
  pub hash : Function → (seed at input : Bytes) → Bytes
  pub prf_msg : (prf mixed message : Bytes) → Bytes
  pub h_msg : (R seed root message : Bytes) → Bytes
  pub hash_sized : (g : Function) (s a x : Bytes) → IsBytes n (hash g s a x)
  pub prf_msg_sized : (s o M : Bytes) → IsBytes n (prf_msg s o M)
  pub h_msg_sized : (R s root M : Bytes) → IsBytes m (h_msg R s root M)

-- The functions that take an address, at one public seed.
pub record Hashes : Type 0 where
  pub n : ℕ
  pub hash : Function → (at input : Bytes) → Bytes
  pub sized : (g : Function) (a x : Bytes) → IsBytes n (hash g a x)

abbrev pub under : {n m : ℕ} → Family n m → (seed : Bytes) → Hashes
under {n} f seed = record { n = n; hash = λ g. f.hash g seed; sized = λ g. f.hash_sized g seed }

-- Section 11.1: the SHAKE family, over a function that gives any number of bytes for a message.
module _ (shake : Bytes → ℕ → Bytes) (shake-sized : (x : Bytes) (n : ℕ) → IsBytes n (shake x n)) (n m : ℕ) where
  abbrev pub shake_family : Family n m
  shake_family = record {
    hash = λ g s a x. shake (s ++ (a ++ x)) n;
    prf_msg = λ s o M. shake (s ++ (o ++ M)) n;
    h_msg = λ R s root M. shake (R ++ (s ++ (root ++ M))) m;
    hash_sized = λ g s a x. shake-sized (s ++ (a ++ x)) n;
    prf_msg_sized = λ s o M. shake-sized (s ++ (o ++ M)) n;
    h_msg_sized = λ R s root M. shake-sized (R ++ (s ++ (root ++ M))) m;
  }

-- ---- Computations and their calls

-- A result, and the calls that were made for it, in order.
pub record Run (A : Type 0) : Type 0 where
  pub result : A
  pub calls : List Call

abbrev pub return : {A : Type 0} → A → Run A
return a = record { result = a; calls = [] }

infixl 40 ◌>>=◌
abbrev pub ◌>>=◌ : {A B : Type 0} → Run A → (A → Run B) → Run B
m >>= f = record { result = (f m.result).result; calls = m.calls ++ (f m.result).calls }

-- The call of a function at a place, and the run that makes it.
abbrev pub call_of : Function → Place → Bytes → Call
call_of g p x = record { kind = of g; place = some p; input = x }

abbrev pub ask : Hashes → Function → Place → Bytes → Run Bytes
ask w g p x = record { result = w.hash g (address p) x; calls = call_of g p x ∷ [] }
