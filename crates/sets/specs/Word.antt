-- Words as lists of digits: the list has the lowest digit first, and any length. No width is named here.
use Rattle.std.specs.Prelude.{Bool, true, false, not, ◌&&◌, ◌||◌, List, [], ◌∷◌, ◌≡◌, ℕ, zero, suc, ◌+◌, ◌*◌, ◌/◌, ◌%◌, ◌^◌, eqb, get_or}

abbrev pub bit : Bool → ℕ
bit true = 1
bit false = 0

-- the number whose binary digits are the list's, the lowest first
unfoldable pub word : List Bool → ℕ
word [] = 0
word (b ∷ bs) = word bs * 2 + bit b

-- the n lowest digits of a number
unfoldable pub digits : ℕ → ℕ → List Bool
digits zero w = []
digits (suc n) w = eqb (w % 2) 1 ∷ digits n (w / 2)

-- digit k of a number
unfoldable pub digit : ℕ → ℕ → Bool
digit m k = eqb (m / 2 ^ k % 2) 1

-- the digit at k: past the end none is set
abbrev pub dig : List Bool → ℕ → Bool
dig a k = get_or a k false

-- what is set in a is set in b
abbrev pub Sub : List Bool → List Bool → Type 0
Sub a b = (k : ℕ) → dig a k ≡ true → dig b k ≡ true

-- how many digits are set
unfoldable pub count : List Bool → ℕ
count [] = 0
count (b ∷ bs) = bit b + count bs

-- none is
abbrev pub empty : List Bool → Bool
empty a = eqb (count a) 0

-- the place of the first set digit, the length where there is none
unfoldable pub first : List Bool → ℕ
first [] = 0
first (true ∷ bs) = 0
first (false ∷ bs) = suc (first bs)

-- digit by digit: in both; in either; in the first and not in the second
unfoldable pub both : List Bool → List Bool → List Bool
both [] ys = []
both (x ∷ xs) [] = []
both (x ∷ xs) (y ∷ ys) = (x && y) ∷ both xs ys

unfoldable pub either : List Bool → List Bool → List Bool
either [] ys = ys
either (x ∷ xs) [] = x ∷ xs
either (x ∷ xs) (y ∷ ys) = (x || y) ∷ either xs ys

unfoldable pub less : List Bool → List Bool → List Bool
less [] ys = []
less (x ∷ xs) [] = x ∷ xs
less (x ∷ xs) (y ∷ ys) = (x && not y) ∷ less xs ys

-- the digit k alone
unfoldable pub only : ℕ → List Bool
only zero = true ∷ []
only (suc k) = false ∷ only k
