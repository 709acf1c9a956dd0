-- The general words that the rules are written in: choices, tests over lists and ranges, numbers as bytes, texts.
-- Nothing here speaks of a heap. Assumes nothing.
use Rattle.std.specs.Prelude.{Bool, true, false, not, List, [], ◌∷◌, ◌++◌, ℕ, zero, suc, ◌+◌, ◌*◌, ◌/◌, ◌%◌, eqb, leb}
use Rattle.std.proofs.Math.Option.{Option, none, some}
use Prim.Native.Char.{code}
use Prim.Native.String as Text

-- ---- choices and tests

-- the first where the test holds, else the second
abbrev pub choose {ℓ} : {A : Type ℓ} → Bool → A → A → A
choose true a b = a
choose false a b = b

abbrev pub both : Bool → Bool → Bool
both true b = b
both false b = false

abbrev pub either : Bool → Bool → Bool
either true b = true
either false b = b

-- a ≤ n ≤ b
abbrev pub between : ℕ → ℕ → ℕ → Bool
between a b n = both (leb a n) (leb n b)

-- the test holds of every number below n
unfoldable pub every_below : ℕ → (ℕ → Bool) → Bool
every_below zero f = true
every_below (suc n) f = both (f n) (every_below n f)

-- ---- lists

module _ {ℓ} {A : Type ℓ} where
  unfoldable pub every : (A → Bool) → List A → Bool
  every f [] = true
  every f (x ∷ xs) = both (f x) (every f xs)

  unfoldable pub any : (A → Bool) → List A → Bool
  any f [] = false
  any f (x ∷ xs) = either (f x) (any f xs)

  -- those of which the test holds, in their order
  unfoldable pub keep : (A → Bool) → List A → List A
  keep f [] = []
  keep f (x ∷ xs) = let r = keep f xs in choose (f x) (x ∷ r) r

  -- the first of which the test holds
  unfoldable pub find : (A → Bool) → List A → Option A
  find f [] = none
  find f (x ∷ xs) = elim (f x) [ true ↦ some x | false ↦ find f xs ]

-- f a₀ ++ f a₁ ++ ..
unfoldable pub join {ℓ κ} : {A : Type ℓ} {B : Type κ} → (A → List B) → List A → List B
join f [] = []
join f (x ∷ xs) = f x ++ join f xs

unfoldable pub sum : List ℕ → ℕ
sum [] = 0
sum (n ∷ ns) = n + sum ns

unfoldable pub member : ℕ → List ℕ → Bool
member n [] = false
member n (x ∷ xs) = either (eqb n x) (member n xs)

-- how often n stands in the list
unfoldable pub count : ℕ → List ℕ → ℕ
count n [] = 0
count n (x ∷ xs) = choose (eqb n x) 1 0 + count n xs

-- the same numbers in the same order
unfoldable pub same : List ℕ → List ℕ → Bool
same [] [] = true
same [] (y ∷ ys) = false
same (x ∷ xs) [] = false
same (x ∷ xs) (y ∷ ys) = both (eqb x y) (same xs ys)

-- the list without later copies: its length is the number of distinct ones
unfoldable pub distinct : List ℕ → List ℕ
unfolding keep
distinct [] = []
distinct (x ∷ xs) = x ∷ keep (λ y. not (eqb x y)) (distinct xs)

-- a, a + 1, .., n of them
unfoldable pub rising : ℕ → ℕ → List ℕ
rising a zero = []
rising a (suc n) = a ∷ rising (suc a) n

-- n nothings
unfoldable pub zeros : ℕ → List ℕ
zeros zero = []
zeros (suc n) = 0 ∷ zeros n

-- ---- numbers as bytes, lowest first

-- the w lowest bytes of n
unfoldable pub little : ℕ → ℕ → List ℕ
little zero n = []
little (suc w) n = n % 256 ∷ little w (n / 256)

-- the number that the bytes are
unfoldable pub big : List ℕ → ℕ
big [] = 0
big (b ∷ bs) = b + 256 * big bs

-- ---- texts

-- a text's characters by their codes
unfoldable pub ascii : Text.String → List ℕ
ascii Text.[] = []
ascii (Text.◌∷◌ c cs) = code c ∷ ascii cs

-- every word above opens by this one name
unfoldable pub basics : Unit {0}
unfolding every_below every any keep find join sum member count same distinct rising zeros little big ascii
basics = tt
