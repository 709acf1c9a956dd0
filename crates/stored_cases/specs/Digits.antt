-- The digits of a stored case. Assumes nothing.
use Rattle.std.specs.Prelude.{ℕ, ◌+◌, ◌*◌, ◌^◌, ◌%◌, List, fold, Option, Some, None, nat_lt, if◌then◌else◌, unwrap_or}
use Rattle.std.specs.Option.{option_and_then, option_map}
use Rattle.std.specs.Char.{digit_value, is_ascii_uppercase}

-- a digit's number, where the byte writes one in lower case
abbrev pub digit_of : ℕ → ℕ → Option ℕ
digit_of radix c = if is_ascii_uppercase c then None else (if nat_lt (digit_value c) radix then Some (digit_value c) else None)

-- the number with one digit more, its low 64 bits
abbrev pub with_digit : ℕ → ℕ → ℕ → ℕ
with_digit radix n c = (n * radix + unwrap_or (digit_of radix c) 0) % 2 ^ 64

abbrev pub number_of : ℕ → List ℕ → ℕ
number_of radix cs = fold (with_digit radix) 0 cs

-- the byte that two digits of hex write
abbrev pub pair_of : ℕ → ℕ → Option ℕ
pair_of a b = option_and_then (λ x. option_map (λ y. 16 * x + y) (digit_of 16 b)) (digit_of 16 a)
