-- A list taken a stretch at a time; and one pass of the sort. Assumes nothing.
use Prim.Native.Nat.{ℕ, zero, suc, ◌+◌, ◌≤◌, ◌<◌}
use mathlib.Core.List.{List, [], ◌∷◌, ◌++◌, append_assoc, append-nil}
use mathlib.Core.Bool.{Bool, true, false}
use mathlib.Core.Path.{◌≡◌, refl, sym, ap, ◌∙◌}
use native.Mathlib.Omega.{arith}
use lib.ListN.{length, take, drop, length-append, length-drop, drop_of_length-le, take-append-drop}
use lib.Seq.{take_all, take-nil, drop-nil, take_at, drop_at, take-add, drop-drop, length-take-le}
use lib.Dec.{ltb}
use borrow.Author.Tests.{ltb-true, ltb-false}
use Rattle.record.specs.Base.{Str}
use Rattle.layout.specs.Sort.{put, arranged, merge, chunks_from, chunks, halves}
use Rattle.layout.proofs.Merging.{merge-nil, merge-arranged, length-arranged}

none : (l : List ℕ) → length l ≤ 0 → l ≡ []
none [] h = refl
none (x ∷ l) h = absurd (omega arith)

module _ (f : List ℕ → List ℕ) (nil : f [] ≡ []) (w : ℕ) (some : 0 < w) where
  empty : (n : ℕ) → chunks_from n f w [] ≡ []
  unfolding chunks_from
  empty zero = refl
  empty (suc n) = rw (take-nil w, drop-nil w, nil, empty n)

  enough : (n m : ℕ) (l : List ℕ) → length l ≤ n → length l ≤ m → chunks_from n f w l ≡ chunks_from m f w l
  unfolding chunks_from
  enough zero m l p q = sym (rw (none l p) (empty m))
  enough (suc n) zero l p q = rw (none l q) (empty (suc n))
  enough (suc n) (suc m) l p q =
      ap (λ (r : List ℕ). f (take w l) ++ r) (enough n m (drop w l) (rw length-drop (omega arith)) (rw length-drop (omega arith)))

  pub chunks-step : (l : List ℕ) → chunks f w l ≡ f (take w l) ++ chunks f w (drop w l)
  unfolding chunks chunks_from
  chunks-step [] = rw (take-nil w, drop-nil w, nil)
  chunks-step (x ∷ l) =
      ap (λ (r : List ℕ). f (take w (x ∷ l)) ++ r) (enough (length l) (length (drop w (x ∷ l))) (drop w (x ∷ l)) (rw length-drop (omega arith)) (rw length-drop (omega arith)))

  pub chunks-nil : chunks f w [] ≡ []
  unfolding chunks chunks_from
  chunks-nil = refl

  pub chunks-last : (l : List ℕ) → length l ≤ w → chunks f w l ≡ f l
  chunks-last l h = chunks-step l ∙ rw (take_all w l h, drop_of_length-le l, chunks-nil, append-nil)

  pub chunks-front : (c rest : List ℕ) → length c ≡ w → chunks f w (c ++ rest) ≡ f c ++ chunks f w rest
  chunks-front c rest h = chunks-step (c ++ rest) ∙ rw (take_at c rest w h, drop_at c rest w h)

module _ (key : ℕ → Str) where
  pub arranged-nil : arranged key [] ≡ []
  unfolding arranged
  arranged-nil = refl

  pub halves-nil : (w : ℕ) → halves key w [] ≡ []
  unfolding halves merge
  halves-nil w = rw (take-nil w, drop-nil w)

  single : (y : ℕ) (r : List ℕ) → arranged key (y ∷ []) ++ r ≡ y ∷ r
  unfolding arranged put
  single y r = refl

  -- sorting stretches of one is no change
  pub chunks-one : (l : List ℕ) → chunks (arranged key) 1 l ≡ l
  chunks-one [] = chunks-nil (arranged key) arranged-nil 1 (omega arith)
  chunks-one (x ∷ l) = chunks-front (arranged key) arranged-nil 1 (omega arith) (x ∷ []) l refl ∙ rw (chunks-one l) (single x l)

  module _ (w : ℕ) (some : 0 < w) where
    halves_of : (xs ys : List ℕ) → length xs ≡ w → halves key w (arranged key xs ++ arranged key ys) ≡ arranged key (xs ++ ys)
    unfolding halves
    halves_of xs ys h =
        let e : length (arranged key xs) ≡ w = length-arranged key xs ∙ h in
        rw (take_at (arranged key xs) (arranged key ys) w e, drop_at (arranged key xs) (arranged key ys) w e) (merge-arranged key xs ys)

    halves-short : (l : List ℕ) → length l ≤ w → halves key w l ≡ l
    unfolding halves
    halves-short l h = rw (take_all w l h, drop_of_length-le l, merge-nil key l)

    -- a pass over arranged stretches of w gives arranged stretches of twice w
    pass-from : (n : ℕ) (l : List ℕ) → length l ≤ n → chunks (halves key w) (w + w) (chunks (arranged key) w l) ≡ chunks (arranged key) (w + w) l
    pass-from zero l h =
        rw (none l h, chunks-nil (arranged key) arranged-nil w some, chunks-nil (halves key w) (halves-nil w) (w + w) (omega arith), chunks-nil (arranged key) arranged-nil (w + w) (omega arith))
    pass-from (suc n) l h = go (ltb w (length l)) refl (pass-from n)
      where
        go : (b : Bool) → ltb w (length l) ≡ b
            → ((r : List ℕ) → length r ≤ n → chunks (halves key w) (w + w) (chunks (arranged key) w r) ≡ chunks (arranged key) (w + w) r)
            → chunks (halves key w) (w + w) (chunks (arranged key) w l) ≡ chunks (arranged key) (w + w) l
        go false e ih =
            let k : length l ≤ w = ltb-false w (length l) e in
            let s : length (arranged key l) ≤ w = rw (length-arranged key l) k in
            rw (
              chunks-last (arranged key) arranged-nil w some l k,
              chunks-last (halves key w) (halves-nil w) (w + w) (omega arith) (arranged key l) (omega arith),
              halves-short (arranged key l) s,
              chunks-last (arranged key) arranged-nil (w + w) (omega arith) l (omega arith),
            )
        go true e ih =
            let k : w < length l = ltb-true w (length l) e in
            more k (ltb (length (drop w l)) w) refl
          where
            more : w < length l → (b : Bool) → ltb (length (drop w l)) w ≡ b → chunks (halves key w) (w + w) (chunks (arranged key) w l) ≡ chunks (arranged key) (w + w) l
            more k true f =
                let g : length (drop w l) < w = ltb-true (length (drop w l)) w f in
                let lx : length (take w l) ≡ w = length-take-le w l (omega arith) in
                let ls : length (arranged key (take w l) ++ arranged key (drop w l)) ≤ w + w =
                rw (length-append, length-arranged key (take w l), length-arranged key (drop w l)) (omega arith) in
                let ll : length l ≤ w + w = (let d = length-drop w l in omega arith) in
                rw (
                  chunks-step (arranged key) arranged-nil w some l,
                  chunks-last (arranged key) arranged-nil w some (drop w l) (omega arith),
                  chunks-last (halves key w) (halves-nil w) (w + w) (omega arith) (arranged key (take w l) ++ arranged key (drop w l)) ls,
                  halves_of (take w l) (drop w l) lx,
                  take-append-drop w l,
                  chunks-last (arranged key) arranged-nil (w + w) (omega arith) l ll,
                )
            more k false f =
                let g : w ≤ length (drop w l) = ltb-false (length (drop w l)) w f in
                let lx : length (take w l) ≡ w = length-take-le w l (omega arith) in
                let ly : length (take w (drop w l)) ≡ w = length-take-le w (drop w l) g in
                let ls : length (arranged key (take w l) ++ arranged key (take w (drop w l))) ≡ w + w =
                rw (length-append, length-arranged key (take w l), length-arranged key (take w (drop w l)), lx, ly) in
                let lr : length (drop w (drop w l)) ≤ n = (let d = length-drop w (drop w l) in let d' = length-drop w l in omega arith) in
                rw (
                  chunks-step (arranged key) arranged-nil w some l,
                  chunks-step (arranged key) arranged-nil w some (drop w l),
                  ← append_assoc (arranged key (take w l)) (arranged key (take w (drop w l))) (chunks (arranged key) w (drop w (drop w l))),
                  chunks-front (halves key w) (halves-nil w) (w + w) (omega arith) (arranged key (take w l) ++ arranged key (take w (drop w l))) (chunks (arranged key) w (drop w (drop w l))) ls,
                  halves_of (take w l) (take w (drop w l)) lx,
                  ih (drop w (drop w l)) lr,
                  chunks-step (arranged key) arranged-nil (w + w) (omega arith) l,
                  take-add w w l,
                  drop-drop w w l,
                )

    pub pass-is : (l : List ℕ) → chunks (halves key w) (w + w) (chunks (arranged key) w l) ≡ chunks (arranged key) (w + w) l
    pass-is l = pass-from (length l) l (omega arith)

    pub arranged-whole : (l : List ℕ) → length l ≤ w → chunks (arranged key) w l ≡ arranged key l
    arranged-whole l h = chunks-last (arranged key) arranged-nil w some l h
