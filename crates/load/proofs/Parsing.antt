-- A stream of commands each of which fits is judged without refusal, and its commands stand where they were put. Assumes nothing.
use Rattle.std.specs.Prelude.{Some, None, Ok}
use mathlib.Core.Path.{◌≡◌, refl, ap, subst}
use mathlib.Core.List.{List, [], ◌∷◌, ◌++◌, append_assoc}
use Prim.Native.Nat.{ℕ, zero, suc, ◌+◌, ◌-◌, ◌<◌, ◌≤◌}
use native.Mathlib.Omega.{arith}
use lib.ListN.{length, get_or, length-append}
use lib.Seq.{drop-append_seam, get_or-append-add}
use borrow.Author.Tests.{eq-eqb, ne_eqb, lt-ltb, le-ltb}
use Rattle.record.specs.Base.{Str, bytes}
use Rattle.record.specs.Commands.{operands, widths, command_of}
use Rattle.record.specs.Judge.{may_stand, parent_after, ready, faults_from, judged_with, judged_at}
use Rattle.record.specs.Reading.{ok, onto, continued, parse}
use Rattle.record.specs.declared.command.Parent.{Parent}
use Rattle.record.specs.declared.refusal.Side.{Side}
use Rattle.load.specs.Generator.{stream_of}
use Rattle.load.specs.Written.{opcode, places_from, cursor_at, Fits, AllFit}

-- the first byte of a command that fits
front-byte : (c x : Str) (w : ℕ) → length c ≡ 1 + w → get_or (c ++ x) 0 0 ≡ opcode c
unfolding opcode
front-byte [] x w h = absurd (omega arith)
front-byte (b ∷ c) x w h = refl

seam-byte : (pre x : Str) → get_or (pre ++ x) (length pre) 0 ≡ get_or x 0 0
seam-byte pre x = subst (λ (n : ℕ). get_or (pre ++ x) n 0 ≡ get_or x 0 0) (omega arith) (get_or-append-add pre x 0 0)

module _ (side : Side) (pool : Str) where
  -- one command
  judged-next : (pre c x : Str) (last : ℕ) (parent : Parent) (f : Fits side pool last parent c)
      → judged_at side (pre ++ (c ++ x)) pool (cursor_at (length pre) last parent) ≡ Ok (Some (command_of (opcode c) (c ++ x), cursor_at (length pre + length c) (opcode c) (parent_after parent (opcode c))))
  unfolding judged_at judged_with ready
  judged-next pre c x last parent f =
      let w = f.whole in
      let e = length-append pre (c ++ x) in
      let d = length-append c x in
      let i : length pre < length (pre ++ (c ++ x)) = omega arith in
      let o : 1 + widths f.row ≤ length (pre ++ (c ++ x)) - length pre = omega arith in
      rw (
        lt-ltb (length pre) (length (pre ++ (c ++ x))) i,
        seam-byte pre (c ++ x),
        front-byte c x (widths f.row) w,
        f.has-row,
        le-ltb (length (pre ++ (c ++ x)) - length pre) (1 + widths f.row) o,
        f.stands (length pre),
        drop-append_seam pre (c ++ x),
        f.fine x,
        seam-byte pre (c ++ x),
        front-byte c x (widths f.row) w,
        ne_eqb (opcode c) 15 f.going,
        w,
      )

  -- the end
  judged-end : (pre : Str) (last : ℕ) (parent : Parent) → (last ≡ 0 → ⊥) → judged_at side (pre ++ (15 ∷ [])) pool (cursor_at (length pre) last parent) ≡ Ok None
  unfolding judged_at judged_with ready operands widths may_stand faults_from bytes
  judged-end pre last parent h =
      let e = length-append pre (15 ∷ []) in
      let i : length pre < length (pre ++ (15 ∷ [])) = omega arith in
      let o : 1 + 0 ≤ length (pre ++ (15 ∷ [])) - length pre = omega arith in
      let q : length pre + (1 + 0) ≡ length (pre ++ (15 ∷ [])) = omega arith in
      rw (lt-ltb (length pre) (length (pre ++ (15 ∷ []))) i, seam-byte pre (15 ∷ []), le-ltb (length (pre ++ (15 ∷ [])) - length pre) (1 + 0) o, ne_eqb last 0 h, seam-byte pre (15 ∷ []), eq-eqb (length pre + (1 + 0)) (length (pre ++ (15 ∷ []))) q)

  pub parse-written : (k : ℕ) (pre : Str) (cs : List Str) (last : ℕ) (parent : Parent) → AllFit side pool last parent cs → length cs < k
      → parse k side (pre ++ stream_of cs) pool (cursor_at (length pre) last parent) ≡ ok (places_from (length pre) cs)
  unfolding parse continued onto stream_of places_from
  parse-written zero pre cs last parent f h = absurd (omega arith)
  parse-written (suc k) pre [] last parent f h = rw (judged-end pre last parent f)
  parse-written (suc k) pre (c ∷ cs) last parent f h =
      let e = length-append pre c in
      rw (judged-next pre c (stream_of cs) last parent f.0)
      (ap (onto (length pre)) (subst (λ (s : Str). parse k side s pool (cursor_at (length pre + length c) (opcode c) (parent_after parent (opcode c))) ≡ ok (places_from (length pre + length c) cs)) (append_assoc pre c (stream_of cs))
      (subst (λ (m : ℕ). parse k side ((pre ++ c) ++ stream_of cs) pool (cursor_at m (opcode c) (parent_after parent (opcode c))) ≡ ok (places_from m cs)) e
      (parse-written k (pre ++ c) cs (opcode c) (parent_after parent (opcode c)) f.1 (omega arith)))))
