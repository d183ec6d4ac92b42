-- A call by what its checks find: its answer, and the buffer that it leaves.
use mathlib.Core.List.{List}
use mathlib.Core.Path.{◌≡◌, refl, sym}
use Prim.Native.Nat.{ℕ, ◌≤◌}
use lib.ListN.{length}
use Rattle.model.specs.Field.{at}
use Rattle.model.specs.Refusal.{Finding, clear, refusal}
use Rattle.model.specs.Answer.{Answer, Lent, LentMarks, refused, written}
use Rattle.model.proofs.Plain.{plain}
use Rattle.theory.proofs.Sheets.{never}

-- A call over lent bytes, by what its checks find.
module _ {A : Type 0} (x : A) (r : ℕ → ℕ → A) where
  abbrev pub Call : Finding → A
  Call f = elim f as (λ _. A) [ clear ↦ x | refusal k p ↦ r k p ]

  pub call_clear : (f : Finding) → f ≡ clear → Call f ≡ x
  call_clear clear e = refl
  call_clear (refusal k p) e = never k p (sym e)

  pub call_refused : (f : Finding) (k p : ℕ) → f ≡ refusal k p → Call f ≡ r k p
  call_refused clear k p e = never k p e
  call_refused (refusal j q) k p e = let i : j ≡ k = cc in let h : q ≡ p = cc in cc

-- The length of the buffer that a call leaves.
pub kept : {A : Type 0} (x : Answer A) (xs buffer : List ℕ) (f : Finding) → (f ≡ clear → length xs ≤ length buffer)
    → length (elim f as (λ _. Lent A) [ clear ↦ record { answer = x; lent = written xs buffer } | refusal k p ↦ record { answer = refused k p; lent = buffer } ]).lent ≡ length buffer
kept x xs buffer clear h = (plain.written_to xs buffer).long (h refl)
kept x xs buffer (refusal k p) h = refl

-- The bytes of the buffer past those that a call writes.
pub past : {A : Type 0} (x : Answer A) (xs buffer : List ℕ) (f : Finding) (e : ℕ) → length xs ≤ e
    → at (elim f as (λ _. Lent A) [ clear ↦ record { answer = x; lent = written xs buffer } | refusal k p ↦ record { answer = refused k p; lent = buffer } ]).lent e ≡ at buffer e
past x xs buffer clear e h = (plain.written_to xs buffer).past e h
past x xs buffer (refusal k p) e h = refl

-- A call over a lent table and lent marks, by what its checks find: the lengths that it leaves, and what stands past what it writes.
module _ {A : Type 0} (x : Answer A) (xs table ys marks : List ℕ) where
  abbrev Marked : Finding → LentMarks A
  Marked f =
      elim f as (λ _. LentMarks A) [
        | clear ↦ record { answer = x; table = written xs table; marks = written ys marks }
        | refusal k p ↦ record { answer = refused k p; table = table; marks = marks }
      ]

  pub marked_kept : (f : Finding) → (f ≡ clear → (length xs ≤ length table) × (length ys ≤ length marks)) → (length (Marked f).table ≡ length table) × (length (Marked f).marks ≡ length marks)
  marked_kept clear h = ((plain.written_to xs table).long (h refl).0, (plain.written_to ys marks).long (h refl).1)
  marked_kept (refusal k p) h = (refl, refl)

  pub marked_past : (f : Finding) (e : ℕ) → (length xs ≤ e → at (Marked f).table e ≡ at table e) × (length ys ≤ e → at (Marked f).marks e ≡ at marks e)
  marked_past clear e = ((plain.written_to xs table).past e, (plain.written_to ys marks).past e)
  marked_past (refusal k p) e = ((λ _. refl), (λ _. refl))
