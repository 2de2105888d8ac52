-- Laws of comparing eight bytes as one number: a number tells its bytes.
use Rattle.std.specs.Prelude.{ℕ, suc, ◌+◌, ◌<◌, ◌≤◌, ◌≡◌, List, [], ◌∷◌, length, get_or, take, drop, ltb}
use Rattle.std.specs.Int.{to_le_bytes, from_le_bytes, w64}
use Rattle.std.proofs.Common.{arith, ◌∙◌, refl, sym, ap, drop-cons, get_or-take, get_or-drop, length-take-le, length-take, length-drop}
use Rattle.std.proofs.Math.Seq.{take-add}
use Rattle.std.proofs.lemmas.Nat.{le_bytes_8}
use Rattle.std.proofs.lemmas.List.{get_or_past}
use borrow.Author.Tests.{ltb-true, ltb-false}
use Rattle.octets.specs.Laws.{split}
use Rattle.parts.specs.Elements.{bytes_at}

-- the first bytes from place i on: that at i, and those from k on
more : (s : List ℕ) (i k m n : ℕ) → i < length s → m ≡ suc n → k ≡ suc i → bytes_at s i m ≡ get_or s i 0 ∷ bytes_at s k n
more s i k m n h e f = rw (e, f, drop-cons s i 0 h)

-- eight bytes of a list, one by one
eight_list : (s : List ℕ) (i : ℕ) → i + 8 ≤ length s
    → bytes_at s i 8 ≡ get_or s i 0 ∷ get_or s (i + 1) 0 ∷ get_or s (i + 2) 0 ∷ get_or s (i + 3) 0 ∷ get_or s (i + 4) 0 ∷ get_or s (i + 5) 0 ∷ get_or s (i + 6) 0 ∷ get_or s (i + 7) 0 ∷ []
eight_list s i h =
    more s i (i + 1) 8 7 (omega arith) refl (omega arith)
    ∙ ap (◌∷◌ (get_or s i 0)) (more s (i + 1) (i + 2) 7 6 (omega arith) refl (omega arith)
    ∙ ap (◌∷◌ (get_or s (i + 1) 0)) (more s (i + 2) (i + 3) 6 5 (omega arith) refl (omega arith)
    ∙ ap (◌∷◌ (get_or s (i + 2) 0)) (more s (i + 3) (i + 4) 5 4 (omega arith) refl (omega arith)
    ∙ ap (◌∷◌ (get_or s (i + 3) 0)) (more s (i + 4) (i + 5) 4 3 (omega arith) refl (omega arith)
    ∙ ap (◌∷◌ (get_or s (i + 4) 0)) (more s (i + 5) (i + 6) 3 2 (omega arith) refl (omega arith)
    ∙ ap (◌∷◌ (get_or s (i + 5) 0)) (more s (i + 6) (i + 7) 2 1 (omega arith) refl (omega arith)
    ∙ ap (◌∷◌ (get_or s (i + 6) 0)) (more s (i + 7) (i + 8) 1 0 (omega arith) refl (omega arith))))))))

byte_in : (s : List ℕ) (i k : ℕ) → ((j : ℕ) → get_or s j 0 < 256) → get_or (bytes_at s i 8) k 0 < 256
byte_in s i k b =
    split (ltb k 8)
    (λ e. rw (get_or-take 8 (drop i s) k 0 (ltb-true k 8 e), get_or-drop i s k 0) (b (i + k)))
    (λ e. let l : length (bytes_at s i 8) ≤ k = omega (arith, length-take 8 (drop i s), ltb-false k 8 e) in rw (get_or_past (bytes_at s i 8) k 0 l) (omega arith))

-- `eight_bytes`
pub eight_told : (s : List ℕ) (i n : ℕ) → i + 8 ≤ length s → ((j : ℕ) → get_or s j 0 < 256)
    → n ≡ from_le_bytes w64 (get_or s i 0 ∷ get_or s (i + 1) 0 ∷ get_or s (i + 2) 0 ∷ get_or s (i + 3) 0 ∷ get_or s (i + 4) 0 ∷ get_or s (i + 5) 0 ∷ get_or s (i + 6) 0 ∷ get_or s (i + 7) 0 ∷ [])
    → to_le_bytes w64 n ≡ bytes_at s i 8
eight_told s i n h b e =
    le_bytes_8 (bytes_at s i 8) n (length-take-le 8 (drop i s) (omega (arith, length-drop i s))) (λ k. byte_in s i k b) (e ∙ ap (from_le_bytes w64) (sym (eight_list s i h)))

-- `stretch`: the two are the same up to i, and so are the eight bytes from there on
pub eight_more : (a b : List ℕ) (i k r m : ℕ) → take i a ≡ take i b → to_le_bytes w64 r ≡ bytes_at a i 8 → to_le_bytes w64 m ≡ bytes_at b i 8 → r ≡ m → k ≡ i + 8 → take k a ≡ take k b
eight_more a b i k r m e f g h z = rw (z, take-add i 8 a, take-add i 8 b, e, ← f, ← g, h)

pub ruleset eights = (eight_more)
