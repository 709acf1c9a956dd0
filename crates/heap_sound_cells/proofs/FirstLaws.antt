-- A block is looked at where its slot painted it; so every block is. Assumes nothing.
use mathlib.Core.Path.{◌≡◌, refl, sym, ap, ◌∙◌, subst}
use mathlib.Core.Bool.{Bool, true, false, not}
use mathlib.Core.List.{List}
use mathlib.Core.Logic.{⊎_elim}
use Prim.Native.Nat.{ℕ, ◌+◌, ◌*◌, ◌≤◌, ◌<◌}
use native.Mathlib.Omega.{arith}
use native.Mathlib.Decide.{dec_lt}
use borrow.Author.Tests.{eqb-true, eq-eqb, ne_eqb, not-true}
use lib.Dec.{eqb}
use lib.ListN.{get_or}
use Rattle.laws.specs.Basics.{either, every_below}
use Rattle.laws.proofs.Tests.{true≢false, either_cases, either_left, either_right, below_all, all_below}
use Rattle.rules.specs.Cells.{Block, block}
use Rattle.rules.specs.Sound.{lies_in}
use Rattle.heap_sound_blocks.specs.Blocks.{Apart, Laid}
use Rattle.heap_sound_blocks.proofs.BlockLaws.{first_all}
use Rattle.rules.specs.Utf8.{utf8}
use Rattle.rules.specs.Heap.{part_of}
use Rattle.heap_sound_cells.specs.Looked.{value_at, named, text_good, vector_good, first_good, Looked}

module _ (good : Block → Bool) (place size : ℕ) (paint : List ℕ) (i : ℕ) where
  empty_good : size ≡ 0 → first_good good (block place size) paint i ≡ true
  unfolding first_good
  empty_good z = either_left _ (eq-eqb size 0 z)

  other_good : (get_or paint place 0 ≡ i + 1 → ⊥) → first_good good (block place size) paint i ≡ true
  unfolding first_good
  other_good d = either_right (eqb size 0) (either_left _ (ap not (ne_eqb (get_or paint place 0) (i + 1) d)))

  here_good : (size ≡ 0 → ⊥) → get_or paint place 0 ≡ i + 1 → good (block place size) ≡ first_good good (block place size) paint i
  unfolding first_good
  here_good d p =
      sym
      ((λ j. either (ne_eqb size 0 d j) (either (not (eqb (get_or paint place 0) (i + 1))) (good (block place size))))
      ∙ (λ j. either (not (eq-eqb (get_or paint place 0) (i + 1) p j)) (good (block place size))))

module _ (good : Block → Bool) (shown : Block) (paint : List ℕ) (i place size : ℕ) (e : block place size ≡ shown) where
  moved : first_good good (block place size) paint i ≡ first_good good shown paint i
  moved = ap (λ (b : Block). first_good good b paint i) e

  pub first_empty : size ≡ 0 → true ≡ first_good good shown paint i
  first_empty z = sym (empty_good good place size paint i z) ∙ moved

  pub first_other : (get_or paint place 0 ≡ i + 1 → ⊥) → true ≡ first_good good shown paint i
  first_other d = sym (other_good good place size paint i d) ∙ moved

  pub first_here : (size ≡ 0 → ⊥) → get_or paint place 0 ≡ i + 1 → good (block place size) ≡ first_good good shown paint i
  first_here d p = here_good good place size paint i d p ∙ moved

module _ (good : Block → Bool) (shows : ℕ → Block) (used n : ℕ) (paint : List ℕ) where
  pub looked_bad : {q : Bool} → Laid shows used n paint q → q ≡ false → Looked shows used n good false
  looked_bad l w =
      record {
        sound = λ e. absurd (true≢false (sym e));
        all = λ e. absurd (true≢false (sym e));
        bad = λ _ a _. l.bad w a;
      }

  first_told : (i : ℕ) → first_good good (shows i) paint i ≡ true → 0 < (shows i).size → get_or paint (shows i).place 0 ≡ i + 1 → good (shows i) ≡ true
  unfolding first_good
  first_told i e f p =
      ⊎_elim (λ z. absurd (omega (arith, eqb-true (shows i).size 0 z)))
      (λ q.
      ⊎_elim (λ z. absurd (true≢false (sym (eq-eqb _ _ p) ∙ not-true _ z))) (λ g. g)
      (either_cases (not (eqb (get_or paint (shows i).place 0) (i + 1))) _ q))
      (either_cases (eqb (shows i).size 0) _ e)

  first_holds : (i : ℕ) → (0 < (shows i).size → good (shows i) ≡ true) → first_good good (shows i) paint i ≡ true
  unfolding first_good
  first_holds i g =
      elim (dec_lt 0 (shows i).size) [
        | no h ↦ either_left _ (eq-eqb (shows i).size 0 (omega arith))
        | yes h ↦ either_right (eqb (shows i).size 0) (either_right (not (eqb (get_or paint (shows i).place 0) (i + 1))) (g h))
      ]

  pub looked : {q : Bool} → Laid shows used n paint q → q ≡ true → (r : Bool) → r ≡ every_below n (λ i. first_good good (shows i) paint i) → Looked shows used n good r
  looked l w r e =
      record {
        sound = λ _. l.sound w;
        all = λ t. first_all shows n paint (l.painted w) good
            (λ i h f p. first_told i (below_all _ n (sym e ∙ t) i h) f p);
        bad = λ t a g. true≢false (sym (all_below _ n (λ i h. first_holds i (g i h))) ∙ sym e ∙ t);
      }

-- the bound of a shown block
pub apart_bound : (shows : ℕ → Block) (used n i : ℕ) → Apart shows used n → i < n → (shows i).place + (shows i).size ≤ used
apart_bound shows used n i a h = bound (shows i) (a.lies i h)
  where
    bound : (b : Block) → lies_in used b ≡ true → b.place + b.size ≤ used
    bound b e = Rattle.heap_sound_blocks.proofs.PaintLaws.lies_bound used b.place b.size e

-- by the place and the size that were read
pub read_bound : (b : Block) (place size m : ℕ) → block place size ≡ b → b.place + b.size ≤ m → place + size ≤ m
read_bound b place size m e h = subst (λ (c : Block). c.place + c.size ≤ m) (sym e) h

pub read_words : (b : Block) (place size m : ℕ) → block place size ≡ b → 3 * (b.place + b.size) ≤ m → 3 * (place + size) ≤ m
read_words b place size m e h = subst (λ (c : Block). 3 * (c.place + c.size) ≤ m) (sym e) h

-- a block's text and elements, as they are looked at
pub text_is : (bytes : List ℕ) (b : Block) → utf8 (part_of bytes b) ≡ text_good bytes b
unfolding text_good
text_is bytes b = refl

pub vector_is : (es m : List ℕ) (capacity : ℕ) (b : Block) → every_below b.size (λ k. named capacity m (value_at es (b.place + k))) ≡ vector_good es m capacity b
unfolding vector_good
vector_is es m capacity b = refl
