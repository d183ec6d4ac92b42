-- One text appended after another.
use mathlib.Core.List.{List, [], ◌∷◌, ◌++◌, append-nil, append_assoc}
use mathlib.Core.Path.{◌≡◌, refl, sym, ◌∙◌, ap}
use Prim.Native.Nat.{ℕ, ◌+◌, ◌≤◌, ◌<◌}
use native.Mathlib.Numerals.{add-one}
use native.Mathlib.Omega.{arith}
use lib.ListN.{length, take, drop, set, length-append, length-set, length-take, length-drop, take-append-drop}
use lib.Seq.{take-suc-set, drop-set-lt, drop-drop}
use borrow.Rule.Slice.PartMut.{put_mid, same_len_mid}
use Rattle.std.proofs.lemmas.Slice.{take-put_mid, drop-put_mid}
use Rattle.model.specs.Answer.{written}
use Rattle.text.specs.Appended.{Appended}

-- Nothing is appended.
pub nothing : (b : List ℕ) (i : ℕ) → Appended 0 b i [] b i
nothing b i = record { ends = omega arith; written = sym (append-nil (take i b)); rest = refl; size = refl; within = omega arith }

-- Two texts, one after the other, are one.
pub then : {m n i j k : ℕ} {b c d s t : List ℕ} → Appended m b i s c j → Appended n c j t d k → Appended (m + n) b i (s ++ t) d k
then {m} {n} {i} {j} {k} {b} {c} {d} {s} {t} p q =
    record {
      ends = omega (arith, p.ends, q.ends, length-append s t);
      written = q.written ∙ ap (λ (l : List ℕ). l ++ t) p.written ∙ append_assoc (take i b) s t;
      rest = q.rest ∙ ap (λ (e : ℕ). drop e c) q.ends ∙ sym (drop-drop (length t) j c) ∙ ap (drop (length t)) p.rest ∙ drop-drop (length t) j b ∙ ap (λ (e : ℕ). drop e b) (sym q.ends);
      size = q.size ∙ p.size;
      within = omega (arith, p.within, q.within, length-append s t);
    }

-- An appended text with a larger bound, and in another form.
pub reads_as : {m i k : ℕ} {b d s : List ℕ} (n : ℕ) (t : List ℕ) → Appended m b i s d k → m ≤ n → s ≡ t → Appended n b i t d k
reads_as n t p h e =
    let l = ap length e in
    record { ends = omega (arith, p.ends); written = rw (sym e) p.written; rest = p.rest; size = p.size; within = omega (arith, p.within) }

-- One byte stored.
pub one : (b : List ℕ) (i x : ℕ) → i < length b → Appended 1 b i (x ∷ []) (set b i x) (i + 1)
one b i x h =
    record {
      ends = refl;
      written = rw add-one (take-suc-set b i x h);
      rest = drop-set-lt (i + 1) b i x (omega arith);
      size = length-set b i x;
      within = omega arith;
    }

-- The bytes of a text stored at a place that has room for them.
pub stored : (b s t : List ℕ) (i k : ℕ) → i + length s ≤ length b → k ≡ length s → t ≡ s → Appended (length s) b i s (put_mid i k b t) (i + length s)
stored b s t i k room count same =
    let long = ap length same in
    record {
      ends = refl;
      written = take-put_mid i k b t (i + length s) (omega arith) (omega arith) ∙ ap (λ (l : List ℕ). take i b ++ l) same;
      rest = drop-put_mid i k b t (i + length s) (omega arith) (omega arith) (omega arith);
      size = same_len_mid i k b t (omega (arith, length-take k (drop i b), length-drop i b));
      within = omega arith;
    }

-- A text appended from the start of a buffer: what the model says of a lent buffer.
pub from_start : {m k : ℕ} {b d s : List ℕ} → Appended m b 0 s d k → d ≡ written s b
unfolding written
from_start {k = k} {b = b} {d = d} {s = s} p =
    let e : k ≡ length s = omega (arith, p.ends) in
    sym (take-append-drop k d) ∙ ap (λ (l : List ℕ). l ++ drop k d) p.written ∙ ap (λ (l : List ℕ). s ++ l) (p.rest ∙ ap (λ (n : ℕ). drop n b) e)
