-- A pool without the bytes that no text covers: a text that is covered whole is found again at its moved start, and whole sequences stay whole (W-206).
-- Assumes nothing.
use mathlib.Core.Path.{◌≡◌, refl, sym, ap, ap₂, ◌∙◌}
use mathlib.Core.List.Memᴰ
use mathlib.Core.List.{List, [], ◌∷◌, ◌++◌, append_assoc, Memᴰ}
use mathlib.Core.Bool.{Bool, true, false, ◌||◌, not, cond, false≢true}
use mathlib.Core.Logic.{◌⊎◌, inl, inr}
use Prim.Native.Nat.{ℕ, zero, suc, ◌+◌, ◌≤◌, ◌<◌}
use native.Mathlib.Omega.{arith}
use lib.Dec.{leb, ltb}
use lib.ListN.{length, get_or, take, drop, length-append, length-drop, take-append-drop}
use lib.Seq.{take-append-le, drop-append-add, drop-append_seam, length-take-le, take-take, get_or-drop, get_or-append-add, drop-drop}
use borrow.Author.Tests.{leb-true, ltb-true, le-leb, lt-ltb}
use Rattle.texts.specs.Utf8.{is_tail, char_length, well_after, well_formed, is_control, no_control, odd_place, no_tail}
use Rattle.texts.proofs.TextLaws.{below_or, both}
use Rattle.texts.proofs.EncodingLaws.{well-step, begins, whole}
use Rattle.texts.proofs.EdgeLaws.{Tails, tails-follow, sequence-same}
use Rattle.texts.proofs.LetterLaws.{fine-well, fine-clean, well-fine}
use Rattle.record.specs.Base.{Str, any}
use Rattle.record.specs.declared.text.Text.{Text}
use Rattle.record.proofs.Basics.{any_some}
use Rattle.record.proofs.WholeTexts.{Lies}
use Rattle.drafts.specs.Packing.{covers, covered, kept, kept_before}

pub any-mem : {A : Type 0} (q : A → Bool) (l : List A) {x : A} → Memᴰ x l → q x ≡ true → any q l ≡ true
unfolding any
any-mem q [] m h = absurd (Memᴰ.not-nil m)
any-mem q (y ∷ ys) (Memᴰ.head e) h = rw (← e, h)
any-mem q (y ∷ ys) (Memᴰ.tail m) h = go (q y) (any-mem q ys m h)
  where
    go : (b : Bool) → any q ys ≡ true → (b || any q ys) ≡ true
    go true r = refl
    go false r = r

pub covered-in : (ts : List Text) (t : Text) → Memᴰ t ts → (j : ℕ) → t.start ≤ j → j < t.start + t.len → covered ts j ≡ true
unfolding covered covers
covered-in ts t m j a b = any-mem (covers j) ts m (rw (le-leb t.start j a, lt-ltb j (t.start + t.len) b))

module _ (c : ℕ → Bool) where
  pub kept_append : (i : ℕ) (a b : Str) → kept c i (a ++ b) ≡ kept c i a ++ kept c (i + length a) b
  unfolding kept
  kept_append i [] b = let n : i ≡ i + 0 = omega arith in ap (λ (k : ℕ). kept c k b) n
  kept_append i (x ∷ a) b =
      let n : i + 1 + length a ≡ i + suc (length a) = omega arith in
      go (c i) (kept_append (i + 1) a b ∙ ap (λ (k : ℕ). kept c (i + 1) a ++ kept c k b) n)
    where
      go : (t : Bool) → kept c (i + 1) (a ++ b) ≡ kept c (i + 1) a ++ kept c (i + length (x ∷ a)) b
          → cond t (x ∷ kept c (i + 1) (a ++ b)) (kept c (i + 1) (a ++ b)) ≡ cond t (x ∷ kept c (i + 1) a) (kept c (i + 1) a) ++ kept c (i + length (x ∷ a)) b
      go true e = ap (λ (l : Str). x ∷ l) e
      go false e = e

  pub kept-all : (i : ℕ) (a : Str) → ((j : ℕ) → i ≤ j → j < i + length a → c j ≡ true) → kept c i a ≡ a
  unfolding kept
  kept-all i [] h = refl
  kept-all i (x ∷ a) h = rw (h i (omega arith) (omega arith)) (ap (λ (l : Str). x ∷ l) (kept-all (i + 1) a (λ j p q. h j (omega arith) (omega arith))))

  -- the first bytes where all of them are kept
  kept-front : (i m : ℕ) (s : Str) → m ≤ length s → ((j : ℕ) → j < m → c (i + j) ≡ true) → (j : ℕ) → j < m → get_or (kept c i s) j 0 ≡ get_or s j 0
  unfolding kept
  kept-front i m [] l h j q = absurd (omega arith)
  kept-front i zero (b ∷ s) l h j q = absurd (omega arith)
  kept-front i (suc m) (b ∷ s) l h j q = rw (first (h 0 (omega arith))) (go j q (kept-front (i + 1) m s (omega arith) (λ k r. next k (h (suc k) (omega arith)))))
    where
      first : c (i + 0) ≡ true → c i ≡ true
      first e = let z : i ≡ i + 0 = omega arith in ap c z ∙ e

      next : (k : ℕ) → c (i + suc k) ≡ true → c (i + 1 + k) ≡ true
      next k e = let z : i + 1 + k ≡ i + suc k = omega arith in ap c z ∙ e

      go : (k : ℕ) → k < suc m → ((x : ℕ) → x < m → get_or (kept c (i + 1) s) x 0 ≡ get_or s x 0) → get_or (b ∷ kept c (i + 1) s) k 0 ≡ get_or (b ∷ s) k 0
      go zero r ih = refl
      go (suc k) r ih = ih k (omega arith)

  -- from a place on no sequence is kept in part: a tail is kept exactly if the byte before it is
  abbrev pub Steady : ℕ → Str → Type 0
  Steady i s = (j : ℕ) → is_tail (get_or s (suc j) 0) ≡ true → c (i + suc j) ≡ c (i + j)

  steady-on : (i b : ℕ) (s : Str) → Steady i (b ∷ s) → Steady (i + 1) s
  steady-on i b s h j e =
      let x : i + 1 + suc j ≡ i + suc (suc j) = omega arith in
      let y : i + suc j ≡ i + 1 + j = omega arith in
      ap c x ∙ h (suc j) e ∙ ap c y

  -- the tails of a sequence go with its first byte
  tail-first : (i b : ℕ) (s : Str) → Steady i (b ∷ s) → is_tail (get_or s 0 0) ≡ true → c (i + 1) ≡ c i
  tail-first i b s h e = let y : i + 0 ≡ i = omega arith in h 0 e ∙ ap c y

  tails-kept : (i b k : ℕ) (s : Str) → Steady i (b ∷ s) → Tails k s → c i ≡ true → (j : ℕ) → j < k → c (i + 1 + j) ≡ true
  tails-kept i b k s h t e zero l = let y : i + 1 + 0 ≡ i + 1 = omega arith in ap c y ∙ tail-first i b s h (t 0 l) ∙ e
  tails-kept i b k s h t e (suc j) l =
      let x : i + 1 + suc j ≡ i + suc (suc j) = omega arith in
      let y : i + suc j ≡ i + 1 + j = omega arith in
      ap c x ∙ h (suc j) (t (suc j) l) ∙ ap c y ∙ tails-kept i b k s h t e j (omega arith)

  same_none : (u : Bool) → ◌≡◌ {A = ℕ} (cond u 0 0) 0
  same_none true = refl
  same_none false = refl

  -- a sequence from its first byte on, and what follows it
  lead-kept : (i b : ℕ) (s : Str) (m : ℕ) → char_length (b ∷ s) ≡ suc m → Steady i (b ∷ s)
      → ((v : Bool) → c i ≡ v → well_after (cond v m 0) (kept c (i + 1) s) ≡ true) → well_after 0 (kept c i (b ∷ s)) ≡ true
  unfolding kept
  lead-kept i b s m e h rest = go (c i) refl
    where
      tails : Tails m s
      tails = tails-follow b s m e

      go : (v : Bool) → c i ≡ v → well_after 0 (cond v (b ∷ kept c (i + 1) s) (kept c (i + 1) s)) ≡ true
      go true f =
          well-step b (kept c (i + 1) s) m
          (sequence-same b s m e (kept c (i + 1) s) (kept-front (i + 1) m s (whole b s m e).room (tails-kept i b m s h tails f)))
          ∙ rest true f
      go false f = rest false f

  -- all sequences, with k bytes of one still to be passed whose first byte is kept or not
  kept-after : (s : Str) (i k : ℕ) (u : Bool) → Tails k s → k ≤ length s → well_after k s ≡ true → Steady i s → (0 < k → c i ≡ u) → well_after (cond u k 0) (kept c i s) ≡ true
  unfolding well_after kept
  kept-after [] i k u t l w h e = refl
  kept-after (b ∷ s) i (suc k) u t l w h e =
      tail u (e (omega arith)) (λ v f. kept-after s (i + 1) k v (λ j q. t (suc j) (omega arith)) (omega arith) w (steady-on i b s h) f)
    where
      tail : (v : Bool) → c i ≡ v → ((x : Bool) → (0 < k → c (i + 1) ≡ x) → well_after (cond x k 0) (kept c (i + 1) s) ≡ true)
          → well_after (cond v (suc k) 0) (cond (c i) (b ∷ kept c (i + 1) s) (kept c (i + 1) s)) ≡ true
      tail true f ih = rw f (ih true (λ q. tail-first i b s h (t 1 (omega arith)) ∙ f))
      tail false f ih = rw f (ih false (λ q. tail-first i b s h (t 1 (omega arith)) ∙ f))
  kept-after (b ∷ s) i zero u t l w h e =
      let n = begins b s w in
      let tails = tails-follow b s n.0 n.1 in
      rw (same_none u)
      (lead-kept i b s n.0 n.1 h
      (λ v f.
      kept-after s (i + 1) n.0 v tails (whole b s n.0 n.1).room (sym (well-step b s n.0 n.1) ∙ w) (steady-on i b s h)
      (λ q. tail-first i b s h (tails 0 q) ∙ f)))

  -- WHOLE SEQUENCES STAY WHOLE
  pub kept-well : (p : Str) → well_formed p ≡ true → Steady 0 p → well_formed (kept c 0 p) ≡ true
  unfolding well_formed
  kept-well p w h = kept-after p 0 0 true (λ j q. absurd (omega arith)) (omega arith) w h (λ q. absurd (omega arith))

  kept-clean : (i : ℕ) (s : Str) → no_control s ≡ true → no_control (kept c i s) ≡ true
  unfolding kept no_control
  kept-clean i [] h = refl
  kept-clean i (b ∷ s) h = let k = both (not (is_control b)) (no_control s) h in go (c i) k.0 (kept-clean (i + 1) s k.1)
    where
      go : (t : Bool) → not (is_control b) ≡ true → no_control (kept c (i + 1) s) ≡ true → no_control (cond t (b ∷ kept c (i + 1) s) (kept c (i + 1) s)) ≡ true
      go true e r = rw e r
      go false e r = r

  pub kept-letters : (p : Str) → Steady 0 p → odd_place p ≡ length p → odd_place (kept c 0 p) ≡ length (kept c 0 p)
  kept-letters p h e = well-fine (kept c 0 p) (kept-well p (fine-well p e) h) (kept-clean 0 p (fine-clean p e))

  -- what is kept from a place on, with a text behind it, begins with no tail
  first-kept : (v : Str) → no_tail v 0 ≡ true → (i : ℕ) (s : Str) → (c i ≡ true → no_tail s 0 ≡ true)
      → ((j : ℕ) → c (i + suc j) ≡ true → c (i + j) ≡ false → no_tail s (suc j) ≡ true) → no_tail (kept c i s ++ v) 0 ≡ true
  unfolding kept no_tail
  first-kept v z i [] f h = z
  first-kept v z i (b ∷ s) f h = go (c i) refl f (first-kept v z (i + 1) s)
    where
      go : (t : Bool) → c i ≡ t → (t ≡ true → not (is_tail b) ≡ true)
          → ((c (i + 1) ≡ true → not (is_tail (get_or s 0 0)) ≡ true) → ((j : ℕ) → c (i + 1 + suc j) ≡ true → c (i + 1 + j) ≡ false → not (is_tail (get_or s (suc j) 0)) ≡ true)
          → not (is_tail (get_or (kept c (i + 1) s ++ v) 0 0)) ≡ true)
          → not (is_tail (get_or (cond t (b ∷ kept c (i + 1) s) (kept c (i + 1) s) ++ v) 0 0)) ≡ true
      go true e g ih = g refl
      go false e g ih =
          let x : i + 0 ≡ i = omega arith in
          ih (λ q. h 0 q (ap c x ∙ e))
          (λ j q r.
          let y : i + suc (suc j) ≡ i + 1 + suc j = omega arith in
          let w : i + suc j ≡ i + 1 + j = omega arith in
          h (suc j) (ap c y ∙ q) (ap c w ∙ r))

-- a text whose start is moved by f stands in the new pool with the same bytes, whole as it was
pub record Moved (f : ℕ → ℕ) (p p2 : Str) (t : Text) : Type 0 where
  pub same : take t.len (drop (f t.start) p2) ≡ take t.len (drop t.start p)
  pub inside : f t.start + t.len ≤ length p2
  pub begins : no_tail p2 (f t.start) ≡ true
  pub ends : no_tail p2 (f t.start + t.len) ≡ true

module _ (c : ℕ → Bool) (p u v : Str) (a l : ℕ) (fits : a + l ≤ length p) (all : (j : ℕ) → a ≤ j → j < a + l → c j ≡ true) where
  abbrev X : Str
  X = kept c 0 (take a p)

  abbrev Q : Str
  Q = drop a p

  abbrev Z : Str
  Z = kept c (a + l) (drop l Q)

  length-q : length (take l Q) ≡ l
  length-q = length-take-le l Q (simp length-drop (omega arith))

  split-q : kept c a Q ≡ take l Q ++ Z
  split-q =
      let n = length-q in
      ap (kept c a) (sym (take-append-drop l Q)) ∙ kept_append c a (take l Q) (drop l Q)
      ∙ ap₂ (λ (x : Str) (k : ℕ). x ++ kept c (a + k) (drop l Q)) (kept-all c a (take l Q) (λ j x y. all j x (omega arith))) n

  split-p : kept c 0 p ≡ X ++ (take l Q ++ Z)
  split-p =
      let n : 0 + length (take a p) ≡ a = omega (arith, length-take-le a p (omega arith)) in
      ap (kept c 0) (sym (take-append-drop a p)) ∙ kept_append c 0 (take a p) (drop a p)
      ∙ ap (λ (k : ℕ). X ++ kept c k Q) n ∙ ap (λ (y : Str). X ++ y) split-q

  pub text_same : take l (drop (length u + kept_before c p a) (u ++ (kept c 0 p ++ v))) ≡ take l (drop a p)
  unfolding kept_before
  text_same =
      drop-rest ∙ take-append-le l (take l Q) (Z ++ v) (omega (arith, length-q)) ∙ take-take l l Q (omega arith)
    where
      drop-rest : take l (drop (length u + length X) (u ++ (kept c 0 p ++ v))) ≡ take l (take l Q ++ (Z ++ v))
      drop-rest = ap (take l) (drop-append-add u (kept c 0 p ++ v) (length X) ∙ ap (λ (k : Str). drop (length X) (k ++ v)) split-p
          ∙ ap (drop (length X)) (append_assoc X (take l Q ++ Z) v ∙ ap (λ (y : Str). X ++ y) (append_assoc (take l Q) Z v)) ∙ drop-append_seam X (take l Q ++ (Z ++ v)))

  pub text-inside : length u + kept_before c p a + l ≤ length (u ++ (kept c 0 p ++ v))
  unfolding kept_before
  text-inside =
      let n = length-q in
      let e = ap length split-p in
      let e2 = length-append X (take l Q ++ Z) in
      let e3 = length-append (take l Q) Z in
      let e4 = length-append u (kept c 0 p ++ v) in
      let e5 = length-append (kept c 0 p) v in
      omega arith

  -- both ends lie between sequences, if what is kept begins and ends so
  module _ (z : no_tail v 0 ≡ true) (apart : (j : ℕ) → c (suc j) ≡ true → c j ≡ false → no_tail p (suc j) ≡ true) where
    -- a place of the old pool, in what is left of it from there on
    from-there : (b : ℕ) → no_tail p b ≡ true → no_tail (kept c b (drop b p) ++ v) 0 ≡ true
    unfolding no_tail
    from-there b e =
        first-kept c v z b (drop b p) (λ q. there 0 ∙ (let y : b + 0 ≡ b = omega arith in ap (λ (k : ℕ). not (is_tail (get_or p k 0))) y) ∙ e)
        (λ j q r.
        let x : b + suc j ≡ suc (b + j) = omega arith in
        there (suc j) ∙ ap (λ (k : ℕ). not (is_tail (get_or p k 0))) x ∙ apart (b + j) (ap c (sym x) ∙ q) r)
      where
        there : (j : ℕ) → not (is_tail (get_or (drop b p) j 0)) ≡ not (is_tail (get_or p (b + j) 0))
        there j = ap (λ (k : ℕ). not (is_tail k)) (get_or-drop b p j 0)

    -- the byte of the new pool at so many bytes behind the front
    pool-at : (x y : Str) (n : ℕ) → kept c 0 p ≡ x ++ y → n ≡ length x → get_or (u ++ (kept c 0 p ++ v)) (length u + n) 0 ≡ get_or (y ++ v) 0 0
    pool-at x y n e l =
        get_or-append-add u (kept c 0 p ++ v) n 0 ∙ ap (λ (k : Str). get_or (k ++ v) n 0) e ∙ ap (λ (k : Str). get_or k n 0) (append_assoc x y v)
        ∙ (let q : n ≡ length x + 0 = omega arith in ap (λ (k : ℕ). get_or (x ++ (y ++ v)) k 0) q) ∙ get_or-append-add x (y ++ v) 0 0

    pub text-begins : no_tail p a ≡ true → no_tail (u ++ (kept c 0 p ++ v)) (length u + kept_before c p a) ≡ true
    unfolding no_tail kept_before
    text-begins e = ap (λ (k : ℕ). not (is_tail k)) (pool-at X (kept c a Q) (length X) (split-p ∙ ap (λ (y : Str). X ++ y) (sym split-q)) refl) ∙ from-there a e

    pub text-ends : no_tail p (a + l) ≡ true → no_tail (u ++ (kept c 0 p ++ v)) (length u + kept_before c p a + l) ≡ true
    unfolding no_tail kept_before
    text-ends e =
        let n = length-q in
        let q = length-append X (take l Q) in
        let w : length u + length X + l ≡ length u + (length X + l) = omega arith in
        let y : length X + l ≡ length (X ++ take l Q) = omega arith in
        ap (λ (k : ℕ). not (is_tail (get_or (u ++ (kept c 0 p ++ v)) k 0))) w
        ∙ ap (λ (k : ℕ). not (is_tail k)) (pool-at (X ++ take l Q) Z (length X + l) (split-p ∙ sym (append_assoc X (take l Q) Z)) y)
        ∙ ap (λ (k : Str). not (is_tail (get_or (kept c (a + l) k ++ v) 0 0))) (drop-drop l a p) ∙ from-there (a + l) e

-- texts that all lie in a pool cover whole sequences of it -----------------------------------------------------------------------

module _ (ts : List Text) (p : Str) (all : (t : Text) → Memᴰ t ts → Lies p t) where
  covering : (j : ℕ) → covered ts j ≡ true → (t : Text) × Memᴰ t ts × (t.start ≤ j) × (j < t.start + t.len)
  unfolding covered covers
  covering j e =
      let w = any_some (covers j) ts e in
      let k = both (leb w.0.start j) (ltb j (w.0.start + w.0.len)) w.2 in
      (w.0, w.1, leb-true w.0.start j k.0, ltb-true j (w.0.start + w.0.len) k.1)

  bare : (j : ℕ) → covered ts j ≡ false → (t : Text) → Memᴰ t ts → t.start ≤ j → j < t.start + t.len → ⊥
  bare j e t m a b = false≢true (sym e ∙ covered-in ts t m j a b)

  -- where covered bytes begin a text does, and where they end one ends
  pub covered-begins : (j : ℕ) → covered ts (suc j) ≡ true → covered ts j ≡ false → no_tail p (suc j) ≡ true
  covered-begins j e f =
      let w = covering (suc j) e in
      let s : w.0.start ≡ suc j = at-start w.0 w.1 w.2 w.3 in
      ap (no_tail p) (sym s) ∙ (all w.0 w.1).begins
    where
      at-start : (t : Text) → Memᴰ t ts → t.start ≤ suc j → suc j < t.start + t.len → t.start ≡ suc j
      at-start t m a b = go (below_or j t.start)
        where
          go : (j < t.start) ⊎ (t.start ≤ j) → t.start ≡ suc j
          go (inl q) = omega arith
          go (inr q) = absurd (bare j f t m q (omega arith))

  covered-ends : (j : ℕ) → covered ts j ≡ true → covered ts (suc j) ≡ false → no_tail p (suc j) ≡ true
  covered-ends j e f =
      let w = covering j e in
      let s : w.0.start + w.0.len ≡ suc j = at-end w.0 w.1 w.2 w.3 in
      ap (no_tail p) (sym s) ∙ (all w.0 w.1).ends
    where
      at-end : (t : Text) → Memᴰ t ts → t.start ≤ j → j < t.start + t.len → t.start + t.len ≡ suc j
      at-end t m a b = go (below_or (suc j) (t.start + t.len))
        where
          go : (suc j < t.start + t.len) ⊎ (t.start + t.len ≤ suc j) → t.start + t.len ≡ suc j
          go (inl q) = absurd (bare (suc j) f t m (omega arith) q)
          go (inr q) = omega arith

  pub covered-steady : Steady (covered ts) 0 p
  unfolding no_tail
  covered-steady j e =
      let x : 0 + suc j ≡ suc j = omega arith in
      let y : j ≡ 0 + j = omega arith in
      ap (covered ts) x ∙ go (covered ts (suc j)) (covered ts j) refl refl ∙ ap (covered ts) y
    where
      tail-there : no_tail p (suc j) ≡ true → ⊥
      tail-there h = false≢true (sym (ap not e) ∙ h)

      go : (s t : Bool) → covered ts (suc j) ≡ s → covered ts j ≡ t → s ≡ t
      go true true a b = refl
      go true false a b = absurd (tail-there (covered-begins j a b))
      go false true a b = absurd (tail-there (covered-ends j b a))
      go false false a b = refl

  -- of the texts that cover the pool, each is moved
  pub moved_in : (u v : Str) → no_tail v 0 ≡ true → (t : Text) → Memᴰ t ts → Moved (λ a. length u + kept_before (covered ts) p a) p (u ++ (kept (covered ts) 0 p ++ v)) t
  moved_in u v z t m =
      let h = all t m in
      record {
        same = text_same (covered ts) p u v t.start t.len h.within (covered-in ts t m);
        inside = text-inside (covered ts) p u v t.start t.len h.within (covered-in ts t m);
        begins = text-begins (covered ts) p u v t.start t.len h.within (covered-in ts t m) z covered-begins h.begins;
        ends = text-ends (covered ts) p u v t.start t.len h.within (covered-in ts t m) z covered-begins h.ends;
      }

  pub covered-letters : odd_place p ≡ length p → odd_place (kept (covered ts) 0 p) ≡ length (kept (covered ts) 0 p)
  covered-letters e = kept-letters (covered ts) p covered-steady e
