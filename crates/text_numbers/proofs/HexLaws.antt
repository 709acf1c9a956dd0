-- Hex, two digits at a time. Assumes nothing.
use mathlib.Core.Path.{◌≡◌, refl, sym, ap, ◌∙◌}
use mathlib.Core.Bool.{Bool, true, false}
use mathlib.Core.List.{List, [], ◌∷◌}
use mathlib.Core.Option.{Option, none, some}
use Rattle.std.specs.Prelude as std
use Rattle.std.specs.Prelude.{Some, None, IsSome, is_some, eqb, ◌%◌}
use Prim.Native.Nat.{ℕ, suc, ◌+◌, ◌-◌, ◌*◌, ◌/◌, ◌≤◌, ◌<◌}
use native.Mathlib.Omega.{arith}
use borrow.Author.Tests.{le-leb, lt-leb, eq-eqb, ne_eqb}
use lib.ListN.{length, get_or, set, drop, drop_of_length-le, length-drop}
use lib.Seq.{sets, drop-cons}
use Rattle.laws.proofs.Tests.{true≢false}
use Rattle.rules.specs.Text.{hex_value, unhex, text_rules}
use Rattle.text_decimals.specs.Reads.{shown}
use Rattle.text_numbers.specs.Answers.{pair_value, is_hex, unhexed, written, hexed_answer, hexed_bytes, Unhexed, answers}

-- ---- one digit

module _ (c : ℕ) where
  pub below_digits : c < 48 → none ≡ hex_value c
  unfolding text_rules
  below_digits h = let k : c < 97 = omega arith in rw (lt-leb 48 c h, lt-leb 97 c k)

  pub a_digit : 48 ≤ c → c ≤ 57 → some (c - 48) ≡ hex_value c
  unfolding text_rules
  a_digit l h = rw (le-leb 48 c l, le-leb c 57 h)

  pub below_letters : 57 < c → c < 97 → none ≡ hex_value c
  unfolding text_rules
  below_letters l h = let k : 48 ≤ c = omega arith in rw (le-leb 48 c k, lt-leb c 57 l, lt-leb 97 c h)

  pub a_letter : (x : ℕ) → 97 ≤ c → c ≤ 102 → x ≡ c - 87 → some x ≡ hex_value c
  unfolding text_rules
  a_letter x l h q =
      let i : 48 ≤ c = omega arith in
      let j : 57 < c = omega arith in
      rw (q, le-leb 48 c i, lt-leb c 57 j, le-leb 97 c l, le-leb c 102 h)

  pub above_letters : 102 < c → none ≡ hex_value c
  unfolding text_rules
  above_letters h =
      let i : 48 ≤ c = omega arith in
      let j : 57 < c = omega arith in
      let k : 97 ≤ c = omega arith in
      rw (le-leb 48 c i, lt-leb c 57 j, le-leb 97 c k, lt-leb c 102 h)

-- ---- two

pair_of : Option ℕ → Option ℕ → Option ℕ
pair_of o p = elim o [ none ↦ none | some x ↦ elim p [ none ↦ none | some y ↦ some (16 * x + y) ] ]

module _ (a b : ℕ) where
  of_both : pair_value a b ≡ pair_of (hex_value a) (hex_value b)
  unfolding answers pair_of
  of_both = refl

  pub pair_first : none ≡ hex_value a → none ≡ pair_value a b
  unfolding pair_of
  pair_first e = ap (λ (o : Option ℕ). pair_of o (hex_value b)) e ∙ sym of_both

  module _ (x : ℕ) (e : some x ≡ hex_value a) where
    pub pair_second : none ≡ hex_value b → none ≡ pair_value a b
    unfolding pair_of
    pair_second f = (λ j. pair_of (e j) (f j)) ∙ sym of_both

    pub pair_is : (y : ℕ) → some y ≡ hex_value b → some (16 * x + y) ≡ pair_value a b
    unfolding pair_of
    pair_is y f = (λ j. pair_of (e j) (f j)) ∙ sym of_both

-- ---- a text's first two

joined : Option ℕ → Option (List ℕ) → Option (List ℕ)
joined none o = none
joined (some v) none = none
joined (some v) (some bs) = some (v ∷ bs)

has_bytes : Option (List ℕ) → Bool
has_bytes o = elim o [ none ↦ false | some bs ↦ true ]

bytes_in : Option (List ℕ) → List ℕ
bytes_in o = elim o [ none ↦ [] | some bs ↦ bs ]

module _ (a b : ℕ) (cs : List ℕ) where
  first_two : unhex (a ∷ b ∷ cs) ≡ joined (pair_value a b) (unhex cs)
  unfolding text_rules answers joined
  first_two = by (hex_value a) (hex_value b) (unhex cs)
    where
      by : (o p : Option ℕ) (q : Option (List ℕ))
          → ◌≡◌ {A = Option (List ℕ)}
          (elim o [ none ↦ none | some x ↦ elim p [ none ↦ none | some y ↦ elim q [ none ↦ none | some bs ↦ some ((16 * x + y) ∷ bs) ] ] ])
          (joined (elim o [ none ↦ none | some x ↦ elim p [ none ↦ none | some y ↦ some (16 * x + y) ] ]) q)
      by none p q = refl
      by (some x) none q = refl
      by (some x) (some y) none = refl
      by (some x) (some y) (some bs) = refl

  two_bad : pair_value a b ≡ none → is_hex (a ∷ b ∷ cs) ≡ false
  unfolding has_bytes answers joined
  two_bad e = ap has_bytes (first_two ∙ ap (λ (o : Option ℕ). joined o (unhex cs)) e)

  module _ (v : ℕ) (e : pair_value a b ≡ some v) where
    two_good : is_hex (a ∷ b ∷ cs) ≡ is_hex cs
    unfolding has_bytes answers joined
    two_good = ap has_bytes (first_two ∙ ap (λ (o : Option ℕ). joined o (unhex cs)) e) ∙ by (unhex cs)
      where
        by : (o : Option (List ℕ)) → has_bytes (joined (some v) o) ≡ has_bytes o
        by none = refl
        by (some bs) = refl

    two_bytes : is_hex cs ≡ true → unhexed (a ∷ b ∷ cs) ≡ v ∷ unhexed cs
    unfolding bytes_in has_bytes answers joined
    two_bytes t = ap bytes_in (first_two ∙ ap (λ (o : Option ℕ). joined o (unhex cs)) e) ∙ by (unhex cs) t
      where
        by : (o : Option (List ℕ)) → has_bytes o ≡ true → bytes_in (joined (some v) o) ≡ v ∷ bytes_in o
        by none t = absurd (true≢false (sym t))
        by (some bs) t = refl

-- ---- at a place

module _ (t : List ℕ) (i : ℕ) where
  two_at : i + 1 < length t → drop i t ≡ get_or t i 0 ∷ get_or t (i + 1) 0 ∷ drop (i + 2) t
  two_at h =
      let e : suc i ≡ i + 1 = omega arith in
      let f : suc (suc i) ≡ i + 2 = omega arith in
      drop-cons t i 0 (omega arith)
      ∙ ap (λ (l : List ℕ). get_or t i 0 ∷ l) (drop-cons t (suc i) 0 (omega arith) ∙ (λ j. get_or t (e j) 0 ∷ drop (f j) t))

  one_left : i + 1 ≡ length t → is_hex (drop i t) ≡ false
  unfolding text_rules answers
  one_left h =
      ap is_hex
      (drop-cons t i 0 (omega arith) ∙ ap (λ (l : List ℕ). get_or t i 0 ∷ l) (drop_of_length-le t {i = suc i} (omega arith)))

  pub odd : is_hex t ≡ is_hex (drop i t) → i < length t → length t - i ≡ 1 → false ≡ is_hex t
  odd now h e = sym (now ∙ one_left (omega arith))

  -- two digits, and what they are
  module _ (h : i + 1 < length t) (r : std.Option ℕ) (e : shown r ≡ pair_value (get_or t i 0) (get_or t (i + 1) 0)) where
    pub bad_two : is_hex t ≡ is_hex (drop i t) → r ≡ None → false ≡ is_hex t
    bad_two now q = sym (now ∙ ap is_hex (two_at h) ∙ two_bad _ _ _ (sym e ∙ ap shown q))

    pub good_two : (v : ℕ) → is_hex t ≡ is_hex (drop i t) → r ≡ Some v → is_hex t ≡ is_hex (drop (i + 2) t)
    good_two v now q = now ∙ ap is_hex (two_at h) ∙ two_good _ _ _ v (sym e ∙ ap shown q)

    module _ (hex : is_hex (drop i t) ≡ true) where
      pub not_none : r ≡ None → ⊥
      not_none q = true≢false (sym hex ∙ ap is_hex (two_at h) ∙ two_bad _ _ _ (sym e ∙ ap shown q))

      module _ (v : ℕ) (q : r ≡ Some v) where
        still_hex : is_hex (drop (i + 2) t) ≡ true
        still_hex = sym (ap is_hex (two_at h) ∙ two_good _ _ _ v (sym e ∙ ap shown q)) ∙ hex

        its_byte : unhexed (drop i t) ≡ v ∷ unhexed (drop (i + 2) t)
        its_byte = ap unhexed (two_at h) ∙ two_bytes _ _ _ v (sym e ∙ ap shown q) still_hex

        byte_written : (l : List ℕ) (at : ℕ) → written (set l at v) (suc at) (unhexed (drop (i + 2) t)) ≡ written l at (unhexed (drop i t))
        unfolding answers
        byte_written l at = ap (sets l at) (sym its_byte)

-- the n-th byte
module _ (t : List ℕ) (n : ℕ) (h : 2 * n + 1 < length t) (r : std.Option ℕ) (e : shown r ≡ pair_value (get_or t (2 * n) 0) (get_or t (2 * n + 1) 0)) where
  twice : 2 * n + 2 ≡ 2 * (n + 1)
  twice = omega arith

  pub not_hex : is_hex t ≡ is_hex (drop (2 * n) t) → is_some r ≡ false → false ≡ is_hex t
  not_hex now q = by r refl q
    where
      by : (o : std.Option ℕ) → r ≡ o → is_some o ≡ false → false ≡ is_hex t
      by None p q = bad_two t (2 * n) h r e now p
      by (Some v) p q = absurd (true≢false q)

  pub hex_still : is_hex t ≡ is_hex (drop (2 * n) t) → is_some r ≡ true → is_hex t ≡ is_hex (drop (2 * (n + 1)) t)
  hex_still now q = by r refl q
    where
      by : (o : std.Option ℕ) → r ≡ o → is_some o ≡ true → is_hex t ≡ is_hex (drop (2 * (n + 1)) t)
      by None p q = absurd (true≢false (sym q))
      by (Some v) p q = good_two t (2 * n) h r e v now p ∙ ap (λ (k : ℕ). is_hex (drop k t)) twice

  module _ (hex : is_hex (drop (2 * n) t) ≡ true) where
    pub a_byte : IsSome r
    a_byte = by r refl
      where
        by : (o : std.Option ℕ) → r ≡ o → IsSome o
        by None p = absurd (not_none t (2 * n) h r e hex p)
        by (Some v) p = refl

    module _ (v : ℕ) (q : r ≡ Some v) where
      pub hex_on : is_hex (drop (2 * (n + 1)) t) ≡ true
      hex_on = ap (λ (k : ℕ). is_hex (drop k t)) (sym twice) ∙ still_hex t (2 * n) h r e hex v q

      pub byte_on : (l : List ℕ) (at : ℕ) → written (set l (at + n) v) (at + (n + 1)) (unhexed (drop (2 * (n + 1)) t)) ≡ written l (at + n) (unhexed (drop (2 * n) t))
      byte_on l at =
          let place : at + (n + 1) ≡ suc (at + n) = omega arith in
          (λ j. written (set l (at + n) v) (place j) (unhexed (drop (sym twice j) t)))
          ∙ byte_written t (2 * n) h r e hex v q l (at + n)

-- all pairs were looked at: none is left, or one digit
pub all_hex : (t : List ℕ) → is_hex t ≡ is_hex (drop (2 * (length t / 2)) t) → eqb (length t % 2) 0 ≡ is_hex t
unfolding text_rules answers
all_hex t now = by (drop (2 * (length t / 2)) t) refl (length-drop (2 * (length t / 2)) t)
  where
    by : (l : List ℕ) → drop (2 * (length t / 2)) t ≡ l → length l ≡ length t - 2 * (length t / 2) → eqb (length t % 2) 0 ≡ is_hex t
    by [] e n = eq-eqb _ _ (omega arith) ∙ sym (now ∙ ap is_hex e)
    by (c ∷ []) e n = ne_eqb _ _ (λ q. omega arith) ∙ sym (now ∙ ap is_hex e)
    by (c ∷ d ∷ l) e n = absurd (omega arith)

-- a text of pairs has no digit left
pub even_hex : (t : List ℕ) → is_hex t ≡ true → 2 * (length t / 2) ≡ length t
unfolding text_rules answers
even_hex [] e = refl
even_hex (a ∷ []) e = absurd (true≢false (sym e))
even_hex (a ∷ b ∷ cs) e = by (pair_value a b) refl (λ h. even_hex cs h)
  where
    by : (o : Option ℕ) → pair_value a b ≡ o → (is_hex cs ≡ true → 2 * (length cs / 2) ≡ length cs) → 2 * (length (a ∷ b ∷ cs) / 2) ≡ length (a ∷ b ∷ cs)
    by none q again = absurd (true≢false (sym e ∙ two_bad a b cs q))
    by (some v) q again = omega (arith, again (sym (two_good a b cs v q) ∙ e))

pub all_written : (l t : List ℕ) (at i : ℕ) → length t ≤ i → l ≡ written l at (unhexed (drop i t))
unfolding text_rules answers
all_written l t at i h = sym (ap (λ (t : List ℕ). written l at (unhexed t)) (drop_of_length-le t h))

-- ---- the whole

pub unhexed_is : (t : List ℕ) → is_hex t ≡ true → unhex t ≡ some (unhexed t)
unfolding answers has_bytes bytes_in
unhexed_is t e = by (unhex t) e
  where
    by : (o : Option (List ℕ)) → has_bytes o ≡ true → o ≡ some (bytes_in o)
    by none e = absurd (true≢false (sym e))
    by (some bs) e = refl

pub unhexed_not : (t : List ℕ) → is_hex t ≡ false → unhex t ≡ none
unfolding answers has_bytes
unhexed_not t e = by (unhex t) e
  where
    by : (o : Option (List ℕ)) → has_bytes o ≡ false → o ≡ none
    by none e = refl
    by (some bs) e = absurd (true≢false e)

-- two digits a byte
pub length-unhexed : (t : List ℕ) → is_hex t ≡ true → length (unhexed t) ≡ length t / 2
unfolding text_rules answers
length-unhexed [] e = refl
length-unhexed (a ∷ []) e = absurd (true≢false (sym e))
length-unhexed (a ∷ b ∷ cs) e = by (pair_value a b) refl (λ h. length-unhexed cs h)
  where
    by : (o : Option ℕ) → pair_value a b ≡ o → (is_hex cs ≡ true → length (unhexed cs) ≡ length cs / 2) → length (unhexed (a ∷ b ∷ cs)) ≡ length (a ∷ b ∷ cs) / 2
    by none q again = absurd (true≢false (sym e ∙ two_bad a b cs q))
    by (some v) q again =
        let h = sym (two_good a b cs v q) ∙ e in
        omega (arith, ap length (two_bytes a b cs v q h), again h)

module _ (l : List ℕ) (at : ℕ) (t : List ℕ) where
  pub hex_read : {after : List ℕ} → is_hex t ≡ true → after ≡ written l at (unhexed t) → Unhexed l at t after (Some (length t / 2))
  unfolding answers
  hex_read h e =
      record {
        answer = ap (λ (n : ℕ). Some n) (sym (length-unhexed t h)) ∙ ap hexed_answer (sym (unhexed_is t h));
        bytes = e ∙ ap (hexed_bytes l at) (sym (unhexed_is t h));
      }

  pub hex_bad : is_hex t ≡ false → Unhexed l at t l None
  unfolding answers
  hex_bad h = record { answer = ap hexed_answer (sym (unhexed_not t h)); bytes = ap (hexed_bytes l at) (sym (unhexed_not t h)) }

-- ---- what a caller may use: two digits a byte

pub hexed_size : (l : List ℕ) (at : ℕ) (t after : List ℕ) (r : std.Option ℕ) (n : ℕ) → Unhexed l at t after r → r ≡ Some n → n ≡ length t / 2
unfolding answers
hexed_size l at t after r n u e = by (is_hex t) refl
  where
    by : (b : Bool) → is_hex t ≡ b → n ≡ length t / 2
    by true h =
        let g : Some n ≡ Some (length (unhexed t)) = sym e ∙ u.answer ∙ ap hexed_answer (unhexed_is t h) in
        let s : n ≡ length (unhexed t) = cc in
        s ∙ length-unhexed t h
    by false h =
        let g : Some n ≡ None = sym e ∙ u.answer ∙ ap hexed_answer (unhexed_not t h) in
        let z : ◌≡◌ {A = ℕ} 0 1 = cc in
        absurd (omega arith)
