-- Members of a list, those that a test keeps, and a list without later copies built from the front. Assumes nothing.
use mathlib.Core.Path.{◌≡◌, refl, sym, ap, ◌∙◌}
use mathlib.Core.Bool.{Bool, true, false, not}
use mathlib.Core.List.Memᴰ
use mathlib.Core.List.{List, [], ◌∷◌, ◌++◌, append_assoc, append-nil, Memᴰ}
use mathlib.Core.Logic.{◌⊎◌, inl, inr, ⊎_elim}
use Prim.Native.Nat.{ℕ, zero, suc, ◌+◌, ◌≤◌, ◌<◌}
use native.Mathlib.Omega.{arith}
use native.Mathlib.Decide.{ℕ_discrete}
use borrow.Author.Tests.{eqb-true, eq-eqb, ne_eqb}
use lib.Dec.{eqb}
use lib.ListN.{length, get_or, length-append}
use Rattle.laws.specs.Basics.{choose, both, either, every, keep, member, count, distinct, rising, basics}
use Rattle.laws.proofs.Tests.{true≢false, both_left, both_right, both_true, either_cases, either_left, either_right}

pub eqb_sym : (x y : ℕ) → eqb x y ≡ eqb y x
eqb_sym x y =
    elim (ℕ_discrete x y) [
      | yes e ↦ eq-eqb x y e ∙ sym (eq-eqb y x (sym e))
      | no ne ↦ ne_eqb x y ne ∙ sym (ne_eqb y x (λ e. ne (sym e)))
    ]

-- ---- keep

module _ {A : Type 0} where
  pub keep_same : (f g : A → Bool) → ((x : A) → f x ≡ g x) → (xs : List A) → keep f xs ≡ keep g xs
  unfolding basics
  keep_same f g h [] = refl
  keep_same f g h (x ∷ xs) = λ i. choose (h x i) (x ∷ keep_same f g h xs i) (keep_same f g h xs i)

  pub keep_all : (f : A → Bool) → ((x : A) → f x ≡ true) → (xs : List A) → keep f xs ≡ xs
  unfolding basics
  keep_all f h [] = refl
  keep_all f h (x ∷ xs) = λ i. choose (h x i) (x ∷ keep_all f h xs i) (keep_all f h xs i)

  pub keep_keep : (f g : A → Bool) (xs : List A) → keep f (keep g xs) ≡ keep (λ x. both (g x) (f x)) xs
  unfolding basics
  keep_keep f g [] = refl
  keep_keep f g (x ∷ xs) = go (keep_keep f g xs) (g x)
    where
      go : keep f (keep g xs) ≡ keep (λ x. both (g x) (f x)) xs → (b : Bool) → keep f (choose b (x ∷ keep g xs) (keep g xs)) ≡ choose (both b (f x)) (x ∷ keep (λ x. both (g x) (f x)) xs) (keep (λ x. both (g x) (f x)) xs)
      go again true = ap (λ (r : List A). choose (f x) (x ∷ r) r) again
      go again false = again

-- a number stands no more often among those kept
pub count_keep : (f : ℕ → Bool) (s : ℕ) (l : List ℕ) → count s (keep f l) ≤ count s l
unfolding basics
count_keep f s [] = omega arith
count_keep f s (x ∷ l) = by (f x) (count_keep f s l)
  where
    by : (b : Bool) → count s (keep f l) ≤ count s l → count s (choose b (x ∷ keep f l) (keep f l)) ≤ count s (x ∷ l)
    by true h = omega arith
    by false h = omega arith

-- what holds at each place of the list where the test does, holds at each place of those kept
module _ {A : Type 0} (f : A → Bool) (d : A) where
  pub keep_each : (P : A → Type 0) (l : List A) → ((i : ℕ) → i < length l → f (get_or l i d) ≡ true → P (get_or l i d)) → (i : ℕ) → i < length (keep f l) → P (get_or (keep f l) i d)
  unfolding basics
  keep_each P [] p i l = absurd (omega arith)
  keep_each P (x ∷ xs) p i l = by (keep_each P xs (λ i l e. p (suc i) (omega arith) e)) (f x) refl i l
    where
      by : ((i : ℕ) → i < length (keep f xs) → P (get_or (keep f xs) i d)) → (b : Bool) → f x ≡ b → (i : ℕ) → i < length (choose b (x ∷ keep f xs) (keep f xs)) → P (get_or (choose b (x ∷ keep f xs) (keep f xs)) i d)
      by again true e zero l = p 0 (omega arith) e
      by again true e (suc i) l = again i (omega arith)
      by again false e i l = again i l

  -- and of each two
  pub keep_pairs : (P : A → A → Type 0) (l : List A) → ((i j : ℕ) → i < j → j < length l → f (get_or l i d) ≡ true → f (get_or l j d) ≡ true → P (get_or l i d) (get_or l j d)) → (i j : ℕ) → i < j → j < length (keep f l) → P (get_or (keep f l) i d) (get_or (keep f l) j d)
  unfolding basics
  keep_pairs P [] p i j m l = absurd (omega arith)
  keep_pairs P (x ∷ xs) p i j m l =
      by (keep_pairs P xs (λ i j m l e g. p (suc i) (suc j) (omega arith) (omega arith) e g)) (f x) refl i j m l
    where
      by : ((i j : ℕ) → i < j → j < length (keep f xs) → P (get_or (keep f xs) i d) (get_or (keep f xs) j d)) → (b : Bool) → f x ≡ b → (i j : ℕ) → i < j → j < length (choose b (x ∷ keep f xs) (keep f xs)) → P (get_or (choose b (x ∷ keep f xs) (keep f xs)) i d) (get_or (choose b (x ∷ keep f xs) (keep f xs)) j d)
      by again true e i zero m l = absurd (omega arith)
      by again true e zero (suc j) m l =
          keep_each (λ y. P x y) xs (λ i l g. p 0 (suc i) (omega arith) (omega arith) e g) j (omega arith)
      by again true e (suc i) (suc j) m l = again i j (omega arith) (omega arith)
      by again false e i j m l = again i j m l

-- ---- member

pub among : (s : ℕ) (l : List ℕ) → member s l ≡ true → Memᴰ s l
unfolding basics
among s [] e = absurd (true≢false (sym e))
among s (x ∷ l) e =
    ⊎_elim (λ p. Memᴰ.head (eqb-true s x p)) (λ p. Memᴰ.tail (among s l p)) (either_cases (eqb s x) _ e)

pub is_member : (s : ℕ) (l : List ℕ) → Memᴰ s l → member s l ≡ true
unfolding basics
is_member s [] m = absurd (Memᴰ.not-nil m)
is_member s (x ∷ l) m =
    ⊎_elim (λ p. either_left (member s l) (eq-eqb s x p)) (λ p. either_right (eqb s x) (is_member s l p))
    (Memᴰ.cases_cons m)

pub first_member : (s : ℕ) (l : List ℕ) → member s (s ∷ l) ≡ true
unfolding basics
first_member s l = either_left (member s l) (eq-eqb s s refl)

pub later_member : (s x : ℕ) (l : List ℕ) → member s l ≡ true → member s (x ∷ l) ≡ true
unfolding basics
later_member s x l e = either_right (eqb s x) e

pub member_other : (s x : ℕ) (l : List ℕ) → (s ≡ x → ⊥) → member s (x ∷ l) ≡ member s l
unfolding basics
member_other s x l d = ap (λ (b : Bool). either b (member s l)) (ne_eqb s x d)

pub member_cases : (s x : ℕ) (l : List ℕ) → member s (x ∷ l) ≡ true → (s ≡ x) ⊎ (member s l ≡ true)
unfolding basics
member_cases s x l e = ⊎_elim (λ p. inl (eqb-true s x p)) (λ p. inr p) (either_cases (eqb s x) _ e)

pub every_member : (f : ℕ → Bool) (l : List ℕ) → every f l ≡ true → (s : ℕ) → member s l ≡ true → f s ≡ true
unfolding basics
every_member f [] e s m = absurd (true≢false (sym m))
every_member f (x ∷ l) e s m =
    ⊎_elim (λ p. ap f p ∙ both_left (f x) _ e)
    (λ p. every_member f l (both_right (f x) _ e) s p)
    (member_cases s x l m)

pub member_every : (f : ℕ → Bool) (l : List ℕ) → ((s : ℕ) → member s l ≡ true → f s ≡ true) → every f l ≡ true
unfolding basics
member_every f [] p = refl
member_every f (x ∷ l) p =
    both_true (p x (first_member x l)) (member_every f l (λ s m. p s (later_member s x l m)))

pub member_rising : (a n s : ℕ) → a ≤ s → s < a + n → member s (rising a n) ≡ true
unfolding basics
member_rising a zero s l h = absurd (omega arith)
member_rising a (suc n) s l h =
    elim (ℕ_discrete s a) [
      | yes e ↦ ap (λ (x : ℕ). member x (a ∷ rising (suc a) n)) e ∙ first_member a (rising (suc a) n)
      | no d ↦ later_member s a (rising (suc a) n) (member_rising (suc a) n s (omega arith) (omega arith))
    ]

-- what is no member is not counted
pub no_member : (s : ℕ) (l : List ℕ) → member s l ≡ false → count s l ≡ 0
unfolding basics
no_member s [] e = refl
no_member s (x ∷ l) e = by (eqb s x) (λ p. no_member s l p) e
  where
    by : (b : Bool) → (member s l ≡ false → count s l ≡ 0) → either b (member s l) ≡ false → choose b 1 0 + count s l ≡ 0
    by true rest p = absurd (true≢false p)
    by false rest p = omega (arith, rest p)

pub member_append : (n : ℕ) (xs ys : List ℕ) → member n (xs ++ ys) ≡ either (member n xs) (member n ys)
unfolding basics
member_append n [] ys = refl
member_append n (x ∷ xs) ys = go (member_append n xs ys) (eqb n x)
  where
    go : member n (xs ++ ys) ≡ either (member n xs) (member n ys) → (b : Bool) → either b (member n (xs ++ ys)) ≡ either (either b (member n xs)) (member n ys)
    go again true = refl
    go again false = again

-- with one more at the end
pub member_end : (n : ℕ) (xs : List ℕ) (x : ℕ) → member n (xs ++ (x ∷ [])) ≡ either (eqb n x) (member n xs)
unfolding basics
member_end n xs x = member_append n xs (x ∷ []) ∙ go (member n xs) (eqb n x)
  where
    go : (a b : Bool) → either a (either b false) ≡ either b a
    go true true = refl
    go true false = refl
    go false true = refl
    go false false = refl

-- a member is one by its number
pub member_of : (n x : ℕ) (xs : List ℕ) → member x xs ≡ true → eqb n x ≡ true → member n xs ≡ true
member_of n x xs h e = ap (λ (n : ℕ). member n xs) (eqb-true n x e) ∙ h

-- ---- a list without later copies, from the front

unfoldable pub add : List ℕ → ℕ → List ℕ
unfolding basics
add seen x = choose (member x seen) seen (seen ++ (x ∷ []))

unfoldable pub adds : List ℕ → List ℕ → List ℕ
unfolding add
adds seen [] = seen
adds seen (x ∷ xs) = adds (add seen x) xs

module _ (seen : List ℕ) (x : ℕ) where
  pub add_known : member x seen ≡ true → add seen x ≡ seen
  unfolding add
  add_known h = ap (λ (b : Bool). choose b seen (seen ++ (x ∷ []))) h

  pub add_new : member x seen ≡ false → add seen x ≡ seen ++ (x ∷ [])
  unfolding add
  add_new h = ap (λ (b : Bool). choose b seen (seen ++ (x ∷ []))) h

-- what it adds: those of the distinct ones that were not there
pub adds_keep : (seen xs : List ℕ) → adds seen xs ≡ seen ++ keep (λ y. not (member y seen)) (distinct xs)
unfolding adds basics
adds_keep seen [] = sym (append-nil seen)
adds_keep seen (x ∷ xs) = go (λ s. adds_keep s xs) (member x seen) refl
  where
    others : List ℕ
    others = keep (λ y. not (eqb x y)) (distinct xs)

    go : ((s : List ℕ) → adds s xs ≡ s ++ keep (λ y. not (member y s)) (distinct xs)) → (b : Bool) → member x seen ≡ b → adds (add seen x) xs ≡ seen ++ keep (λ y. not (member y seen)) (x ∷ others)
    go again true h =
        ap (λ (s : List ℕ). adds s xs) (add_known seen x h) ∙ again seen
        ∙ ap (λ (l : List ℕ). seen ++ l)
        (sym
        (ap (λ (b : Bool). choose (not b) (x ∷ keep (λ y. not (member y seen)) others) (keep (λ y. not (member y seen)) others)) h
        ∙ keep_keep (λ y. not (member y seen)) (λ y. not (eqb x y)) (distinct xs)
        ∙ keep_same (λ y. both (not (eqb x y)) (not (member y seen))) (λ y. not (member y seen)) (λ y. same y (eqb x y) refl) (distinct xs)))
      where
        same : (y : ℕ) (b : Bool) → eqb x y ≡ b → both (not b) (not (member y seen)) ≡ not (member y seen)
        same y true e = sym (ap not (member_of y x seen h (eqb_sym y x ∙ e)))
        same y false e = refl
    go again false h =
        ap (λ (s : List ℕ). adds s xs) (add_new seen x h) ∙ again (seen ++ (x ∷ []))
        ∙ append_assoc seen (x ∷ []) (keep (λ y. not (member y (seen ++ (x ∷ [])))) (distinct xs))
        ∙ ap (λ (l : List ℕ). seen ++ l)
        (sym
        (ap (λ (b : Bool). choose (not b) (x ∷ keep (λ y. not (member y seen)) others) (keep (λ y. not (member y seen)) others)) h
        ∙ ap (λ (l : List ℕ). x ∷ l)
        (keep_keep (λ y. not (member y seen)) (λ y. not (eqb x y)) (distinct xs)
        ∙ keep_same (λ y. both (not (eqb x y)) (not (member y seen))) (λ y. not (member y (seen ++ (x ∷ []))))
        (λ y. differs (eqb x y) (member y seen) ∙ ap not (ap (λ (b : Bool). either b (member y seen)) (eqb_sym x y) ∙ sym (member_end y seen x)))
        (distinct xs))))
      where
        differs : (a b : Bool) → both (not a) (not b) ≡ not (either a b)
        differs true b = refl
        differs false b = refl

-- as many as there are distinct ones
pub adds_distinct : (xs : List ℕ) → adds [] xs ≡ distinct xs
unfolding basics
adds_distinct xs = adds_keep [] xs ∙ keep_all (λ y. not (member y [])) (λ y. refl) (distinct xs)

pub adds_longer : (seen xs : List ℕ) → length seen ≤ length (adds seen xs)
adds_longer seen xs =
    omega (arith, ap length (adds_keep seen xs) ∙ length-append seen (keep (λ y. not (member y seen)) (distinct xs)))
