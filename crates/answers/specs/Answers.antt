-- The answers with the paper's numbers, and what an answer leaves behind.
-- Assumes nothing.
use Rattle.std.proofs.Math.Option.{Option, some, none}
use Rattle.std.specs.Prelude.{ℕ, zero, suc, Result, Ok, Err, ⊤}
use Rattle.rules.specs.Sets.{Row}
use Rattle.answers.specs.declared.Refusal.{Refusal}
use Rattle.answers.specs.declared.Refusal.TheVariants.{UnknownSet, InputLength, MessageLength, SealLength}
use Rattle.answers.specs.declared.Refusal.TheVariants.{RootDiffers, UnknownPart}

-- Done, or a refusal.
abbrev pub Answer : Type 0
Answer = Result ⊤ Refusal

abbrev pub number : Answer → ℕ
number (Ok _) = 0
number (Err UnknownSet) = 1
number (Err InputLength) = 2
number (Err MessageLength) = 3
number (Err SealLength) = 4
number (Err RootDiffers) = 5
number (Err UnknownPart) = 6

-- The longest message.
abbrev pub message_limit : ℕ
message_limit = 65536

-- What is held or told afterwards: what the set makes of it where the answer is 0, and else what it was.
unfoldable pub settled : {A : Type 0} → (answer : ℕ) → Option Row → (made : Row → A) (was : A) → A
settled zero (some r) made was = made r
settled zero none made was = was
settled (suc _) row made was = was
