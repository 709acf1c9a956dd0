-- The marks of a walk in the scratch: a slot entered, left, and met again. Document 01, "Reading back": "A slot met again while
-- on the current path gets, if it has none, the next label from 0." Assumes nothing.
use mathlib.Core.Path.{◌≡◌, refl, sym, ap, ◌∙◌, subst}
use mathlib.Core.Bool.{Bool, true, false}
use mathlib.Core.List.{List, [], ◌∷◌, ◌++◌}
use Prim.Native.Nat.{ℕ, suc, ◌+◌, ◌-◌, ◌*◌, ◌≤◌, ◌<◌}
use native.Mathlib.Omega.{arith}
use native.Mathlib.Decide.{ℕ_discrete}
use borrow.Author.Tests.{eq-eqb, ne_eqb}
use lib.Dec.{eqb}
use lib.ListN.{length, get_or, set, length-append}
use lib.Seq.{get_or-set_same, get_or-set_other}
use Rattle.laws.specs.Basics.{choose, either, member, basics}
use Rattle.laws.proofs.Tests.{true≢false}
use Rattle.laws.proofs.Members.{member_end, member_other, first_member}
use Rattle.rules.specs.Read.{Walk, meet, give_label, enter, place_in}
use Rattle.rules.specs.Heap.{Heap}
use Rattle.heap_walk.specs.Marks.{label_word, state_word, mark, Marked, MetAgain}
use Rattle.heap_walk.specs.Tasks.{Kept}
use Rattle.heap_walk.proofs.WalkLaws.{enter_path, enter_met}

-- ---- places among the labels

place_end : (xs : List ℕ) (s x : ℕ) → member x xs ≡ true → place_in (xs ++ (s ∷ [])) x ≡ place_in xs x
unfolding place_in basics
place_end [] s x e = absurd (true≢false (sym e))
place_end (y ∷ xs) s x e = go (eqb x y) (λ p. place_end xs s x p) e
  where
    go : (b : Bool) → (member x xs ≡ true → place_in (xs ++ (s ∷ [])) x ≡ place_in xs x) → either b (member x xs) ≡ true → choose b 0 (suc (place_in (xs ++ (s ∷ [])) x)) ≡ choose b 0 (suc (place_in xs x))
    go true again e = refl
    go false again e = ap suc (again e)

place_last : (xs : List ℕ) (s : ℕ) → member s xs ≡ false → place_in (xs ++ (s ∷ [])) s ≡ length xs
unfolding place_in basics
place_last [] s e = ap (λ (b : Bool). choose b 0 1) (eq-eqb s s refl)
place_last (y ∷ xs) s e = go (eqb s y) (λ p. place_last xs s p) e
  where
    go : (b : Bool) → (member s xs ≡ false → place_in (xs ++ (s ∷ [])) s ≡ length xs) → either b (member s xs) ≡ false → choose b 0 (suc (place_in (xs ++ (s ∷ [])) s)) ≡ suc (length xs)
    go true again e = absurd (true≢false e)
    go false again e = ap suc (again e)

-- ---- words of a mark

pub label_none : (labels : List ℕ) (s : ℕ) → member s labels ≡ false → label_word labels s ≡ 0
unfolding label_word
label_none labels s e = ap (λ (b : Bool). choose b (suc (place_in labels s)) 0) e

pub label_some : (labels : List ℕ) (s : ℕ) → member s labels ≡ true → label_word labels s ≡ suc (place_in labels s)
unfolding label_word
label_some labels s e = ap (λ (b : Bool). choose b (suc (place_in labels s)) 0) e

label_last : (labels : List ℕ) (s : ℕ) → member s labels ≡ false → label_word (labels ++ (s ∷ [])) s ≡ suc (length labels)
label_last labels s e =
    label_some (labels ++ (s ∷ [])) s (member_end s labels s ∙ ap (λ (b : Bool). either b (member s labels)) (eq-eqb s s refl))
    ∙ ap suc (place_last labels s e)

label_other : (labels : List ℕ) (s x : ℕ) → (x ≡ s → ⊥) → label_word (labels ++ (s ∷ [])) x ≡ label_word labels x
label_other labels s x d = go (member x labels) refl
  where
    same : member x (labels ++ (s ∷ [])) ≡ member x labels
    same = member_end x labels s ∙ ap (λ (b : Bool). either b (member x labels)) (ne_eqb x s d)

    go : (b : Bool) → member x labels ≡ b → label_word (labels ++ (s ∷ [])) x ≡ label_word labels x
    go true e = label_some (labels ++ (s ∷ [])) x (same ∙ e) ∙ ap suc (place_end labels s x e) ∙ sym (label_some labels x e)
    go false e = label_none (labels ++ (s ∷ [])) x (same ∙ e) ∙ sym (label_none labels x e)

state_path : (path met : List ℕ) (s : ℕ) → member s path ≡ true → state_word path met s ≡ 2
unfolding state_word
state_path path met s e = ap (λ (b : Bool). choose b 2 (choose (member s met) 1 0)) e

state_met : (path met : List ℕ) (s : ℕ) → member s path ≡ false → member s met ≡ true → state_word path met s ≡ 1
unfolding state_word
state_met path met s e m = ap (λ (b : Bool). choose b 2 (choose (member s met) 1 0)) e ∙ ap (λ (b : Bool). choose b 1 0) m

state_new : (path met : List ℕ) (s : ℕ) → member s path ≡ false → member s met ≡ false → state_word path met s ≡ 0
unfolding state_word
state_new path met s e m = ap (λ (b : Bool). choose b 2 (choose (member s met) 1 0)) e ∙ ap (λ (b : Bool). choose b 1 0) m

labelled : (s : ℕ) (w : Walk) (b : Bool) → member s w.labels ≡ b → give_label s w ≡ record { met = w.met; labels = choose b w.labels (w.labels ++ (s ∷ [])) }
unfolding give_label
labelled s w b e = ap {B = Walk} (λ (b : Bool). record { met = w.met; labels = choose b w.labels (w.labels ++ (s ∷ [])) }) e

-- ---- what a mark tells

pub record Fresh (path : List ℕ) (w : Walk) (s : ℕ) : Type 0 where
  pub off_path : member s path ≡ false
  pub not_met : member s w.met ≡ false

-- a mark of 0: not met, and so not on the path
pub fresh : (path : List ℕ) (w : Walk) (s : ℕ) → mark path w s ≡ 0 → Fresh path w s
unfolding mark
fresh path w s e = go (member s path) refl (member s w.met) refl
  where
    go : (a : Bool) → member s path ≡ a → (b : Bool) → member s w.met ≡ b → Fresh path w s
    go true p b q = absurd (omega (arith, e, state_path path w.met s p))
    go false p true q = absurd (omega (arith, e, state_met path w.met s p q))
    go false p false q = record { off_path = p; not_met = q }

module _ (h : Heap) (path : List ℕ) (w : Walk) (k : Kept h path w) (s : ℕ) where
  unlabelled : member s w.met ≡ false → member s w.labels ≡ false
  unlabelled e = go (member s w.labels) refl
    where
      go : (b : Bool) → member s w.labels ≡ b → member s w.labels ≡ false
      go true q = absurd (true≢false (sym (k.labels_met s q) ∙ e))
      go false q = q

  module _ (known : ℕ) (marks : List ℕ) (m : Marked path w known marks) (small : s < length marks) where
    -- a slot is entered
    pub entered : Fresh path w s → Marked (s ∷ path) (meet s w) known (set marks s 2)
    unfolding mark state_word
    entered f =
        record {
          marks_are =
              λ x.
              elim (ℕ_discrete x s) [
                | yes e ↦
                    ap (λ (y : ℕ). get_or (set marks s 2) y 0) e ∙ get_or-set_same marks s 2 0 small
                    ∙ sym (here e)
                | no d ↦
                    get_or-set_other marks s x 2 0 d ∙ m.marks_are x
                    ∙ (λ i. choose (sym (member_other x s path d) i) 2 (choose (sym (member_other x s w.met d) i) 1 0) + 4 * label_word w.labels x)
              ];
          count_is = m.count_is;
        }
      where
        here : {x : ℕ} → x ≡ s → mark (s ∷ path) (meet s w) x ≡ 2
        here {x} e =
            omega (
              arith,
              ap (λ (y : ℕ). label_word w.labels y) e ∙ label_none w.labels s (unlabelled f.not_met),
              ap (λ (y : ℕ). state_word (s ∷ path) (s ∷ w.met) y) e ∙ state_path (s ∷ path) (s ∷ w.met) s (first_member s path),
            )

    -- a slot that was met is met again
    pub again : (inside : Walk → Walk) (after : List ℕ) (r : ℕ) → (get_or marks s 0 ≡ 0 → ⊥) → MetAgain marks known s after r → Marked path (enter path s inside w) r after
    unfolding mark
    again inside after r seen g = go (member s path) refl (member s w.labels) refl
      where
        -- nothing changes
        still : eqb (get_or marks s 0) 2 ≡ false → Marked path w r after
        still e =
            record {
              marks_are =
                  λ x.
                  ap (λ (l : List ℕ). get_or l x 0) (g.marks_are ∙ ap (λ (b : Bool). choose b (set marks s (4 * known + 6)) marks) e)
                  ∙ m.marks_are x;
              count_is = g.count_is ∙ ap (λ (b : Bool). choose b (known + 1) known) e ∙ m.count_is;
            }

        -- the next label
        next : member s path ≡ true → member s w.labels ≡ false → eqb (get_or marks s 0) 2 ≡ true → Marked path (record { met = w.met; labels = w.labels ++ (s ∷ []) }) r after
        next p l e =
            record {
              marks_are =
                  λ x.
                  ap (λ (a : List ℕ). get_or a x 0) (g.marks_are ∙ ap (λ (b : Bool). choose b (set marks s (4 * known + 6)) marks) e)
                  ∙ elim (ℕ_discrete x s) [
                    | yes q ↦
                        ap (λ (y : ℕ). get_or (set marks s (4 * known + 6)) y 0) q ∙ get_or-set_same marks s (4 * known + 6) 0 small ∙ sym (here q p l)
                    | no d ↦
                        get_or-set_other marks s x (4 * known + 6) 0 d ∙ m.marks_are x
                        ∙ ap (λ (y : ℕ). state_word path w.met x + 4 * y) (sym (label_other w.labels s x d))
                  ];
              count_is =
                  g.count_is ∙ ap (λ (b : Bool). choose b (known + 1) known) e ∙ ap (λ (y : ℕ). y + 1) m.count_is
                  ∙ sym (length-append w.labels (s ∷ []));
            }
          where
            here : {x : ℕ} → x ≡ s → member s path ≡ true → member s w.labels ≡ false → mark path (record { met = w.met; labels = w.labels ++ (s ∷ []) }) x ≡ 4 * known + 6
            here {x} q p l =
                omega (
                  arith,
                  ap (λ (y : ℕ). label_word (w.labels ++ (s ∷ [])) y) q ∙ label_last w.labels s l,
                  ap (λ (y : ℕ). state_word path w.met y) q ∙ state_path path w.met s p,
                  m.count_is,
                )

        go : (a : Bool) → member s path ≡ a → (b : Bool) → member s w.labels ≡ b → Marked path (enter path s inside w) r after
        go true p true l =
            subst (λ (x : Walk). Marked path x r after) (sym (enter_path path s inside w p ∙ labelled s w true l))
            (still
            (ne_eqb (get_or marks s 0) 2
            (λ e. omega (arith, m.marks_are s, state_path path w.met s p, label_some w.labels s l))))
        go true p false l =
            subst (λ (x : Walk). Marked path x r after) (sym (enter_path path s inside w p ∙ labelled s w false l))
            (next p l
            (eq-eqb (get_or marks s 0) 2 (omega (arith, m.marks_are s, state_path path w.met s p, label_none w.labels s l))))
        go false p b l =
            let met : member s w.met ≡ true = was_met p (member s w.met) refl in
            subst (λ (x : Walk). Marked path x r after) (sym (enter_met path s inside w p met))
            (still (ne_eqb (get_or marks s 0) 2 (λ e. omega (arith, m.marks_are s, state_met path w.met s p met))))
          where
            was_met : member s path ≡ false → (b : Bool) → member s w.met ≡ b → member s w.met ≡ true
            was_met p true q = q
            was_met p false q =
                absurd
                (seen (omega (arith, m.marks_are s, state_new path w.met s p q, label_none w.labels s (unlabelled q))))

-- a slot is left: it stays met
pub left : (path : List ℕ) (w : Walk) (s known : ℕ) (marks : List ℕ) → Marked (s ∷ path) w known marks → s < length marks → member s path ≡ false → member s w.met ≡ true → Marked path w known (set marks s (get_or marks s 0 - 1))
unfolding mark state_word
left path w s known marks m small off met =
    record {
      marks_are =
          λ x.
          elim (ℕ_discrete x s) [
            | yes e ↦
                ap (λ (y : ℕ). get_or (set marks s (get_or marks s 0 - 1)) y 0) e ∙ get_or-set_same marks s (get_or marks s 0 - 1) 0 small
                ∙ here ∙ ap (mark path w) (sym e)
            | no d ↦
                get_or-set_other marks s x (get_or marks s 0 - 1) 0 d ∙ m.marks_are x
                ∙ (λ i. choose (member_other x s path d i) 2 (choose (member x w.met) 1 0) + 4 * label_word w.labels x)
          ];
      count_is = m.count_is;
    }
  where
    here : get_or marks s 0 - 1 ≡ mark path w s
    here =
        omega (
          arith,
          m.marks_are s,
          state_path (s ∷ path) w.met s (first_member s path),
          state_met path w.met s off met,
        )

-- the mark of a slot on the path can be lowered
pub on_path : (path : List ℕ) (w : Walk) (s known : ℕ) (marks : List ℕ) → Marked (s ∷ path) w known marks → 2 ≤ get_or marks s 0
unfolding mark
on_path path w s known marks m = omega (arith, m.marks_are s, state_path (s ∷ path) w.met s (first_member s path))
