-- A stream put together from a chain: the reading finds its commands, and they say what the chain says. Assumes nothing.
use Rattle.std.specs.Prelude.{Some, None, Ok}
use mathlib.Core.Path.{◌≡◌, refl, sym, ap, ap₂, ◌∙◌, subst}
use mathlib.Core.List.{List, [], ◌∷◌, ◌++◌, map, append_assoc}
use Prim.Native.Nat.{ℕ, zero, suc, ◌+◌, ◌-◌, ◌≤◌, ◌<◌}
use native.Mathlib.Omega.{arith}
use lib.ListN.{length, get_or, drop, length-append, get_or-append}
use lib.Seq.{drop_at, get_or-append-add, get_or_at}
use borrow.Author.Tests.{lt-ltb, le-ltb, ne_eqb, eq-eqb}
use Rattle.record.specs.Base.{Str, bytes}
use Rattle.record.specs.Fill.{joined}
use Rattle.record.specs.Commands.{operands, widths, command_of}
use Rattle.record.specs.Judge.{may_stand, advanced, faults_from, ready, judged_with, judged_at}
use Rattle.record.specs.Reading.{ok, onto, continued, parse}
use Rattle.record.specs.declared.command.Cursor.{Cursor}
use Rattle.record.specs.declared.refusal.Side.{Side}
use Rattle.drafts.specs.Content.{Content, content_as, content_at}
use Rattle.drafts.proofs.Links.{Link, Chain}

-- the places of the commands, and what they say
pub record Built (side : Side) (s p : Str) (n : ℕ) (k : Cursor) (ds : List Content) : Type 0 where
  pub places : List ℕ
  pub parses : parse n side s p k ≡ ok places
  pub says : map (content_at s p) places ≡ ds

module _ (side : Side) (p : Str) where
  -- one command behind a front
  module _ (pre z y : Str) (k : Cursor) (d : Content) (here : length pre ≡ k.at) (l : Link side p k z d) where
    abbrev S : Str
    S = pre ++ (z ++ y)

    wide-z : 0 < length z
    wide-z = let n = l.sized in omega arith

    byte : get_or S k.at 0 ≡ get_or z 0 0
    byte =
        let n : k.at ≡ length pre + 0 = omega arith in
        ap (λ (i : ℕ). get_or S i 0) n ∙ get_or-append-add pre (z ++ y) 0 0 ∙ get_or-append z y 0 0 wide-z

    rest-is : drop k.at S ≡ z ++ y
    rest-is = drop_at pre (z ++ y) k.at here

    long : k.at + length z ≤ length S
    long = let a = length-append pre (z ++ y) in let b = length-append z y in omega arith

    link-judged : judged_at side S p k ≡ Ok (Some (command_of (get_or z 0 0) (z ++ y), advanced k (get_or z 0 0) (length z)))
    unfolding judged_at judged_with ready
    link-judged =
        let n = l.sized in
        let a = long in
        let w = wide-z in
        rw (lt-ltb k.at (length S) (omega arith), byte, l.has-row, le-ltb (length S - k.at) (1 + widths l.row) (omega arith), l.stands, rest-is, l.fine y, byte, ne_eqb (get_or z 0 0) 15 l.going, ← n)

    link-says : content_at S p k.at ≡ d
    unfolding content_at
    link-says = ap₂ (content_as p) rest-is byte ∙ l.says y

  -- 0F behind a front
  end-judged : (pre : Str) (k : Cursor) → length pre ≡ k.at → (k.last ≡ 0 → ⊥) → judged_at side (pre ++ (15 ∷ [])) p k ≡ Ok None
  unfolding judged_at judged_with ready operands bytes widths faults_from may_stand
  end-judged pre k e n =
      let a = length-append pre (15 ∷ []) in
      let s : Str = pre ++ (15 ∷ []) in
      rw (lt-ltb k.at (length s) (omega arith), get_or_at pre 15 [] 0 k.at e, le-ltb (length s - k.at) 1 (omega arith), ne_eqb k.last 0 n, eq-eqb (k.at + 1) (length s) (omega arith), get_or_at pre 15 [] 0 k.at e)

  pub build : (zs : List Str) (ds : List Content) (pre : Str) (k : Cursor) (n : ℕ) → length pre ≡ k.at → length zs < n → Chain side p k zs ds → Built side (pre ++ (joined zs ++ (15 ∷ []))) p n k ds
  unfolding parse continued onto joined
  build [] [] pre k zero e h c = absurd (omega arith)
  build [] [] pre k (suc n) e h c = record { places = []; parses = rw (end-judged pre k e c); says = refl }
  build [] (d ∷ ds) pre k n e h c = absurd c
  build (z ∷ zs) [] pre k n e h c = absurd c
  build (z ∷ zs) (d ∷ ds) pre k zero e h c = absurd (omega arith)
  build (z ∷ zs) (d ∷ ds) pre k (suc n) e h c =
      let y : Str = joined zs ++ (15 ∷ []) in
      let b : Built side ((pre ++ z) ++ y) p n (advanced k (get_or z 0 0) (length z)) ds =
      build zs ds (pre ++ z) (advanced k (get_or z 0 0) (length z)) n (length-append pre z ∙ ap (λ (i : ℕ). i + length z) e) (omega arith) c.1 in
      let q : pre ++ ((z ++ joined zs) ++ (15 ∷ [])) ≡ pre ++ (z ++ y) = ap (λ (i : Str). pre ++ i) (append_assoc z (joined zs) (15 ∷ [])) in
      let q2 : (pre ++ z) ++ y ≡ pre ++ (z ++ y) = append_assoc pre z y in
      let b2 : Built side (pre ++ (z ++ y)) p n (advanced k (get_or z 0 0) (length z)) ds = subst (λ (s : Str). Built side s p n (advanced k (get_or z 0 0) (length z)) ds) q2 b in
      let r : Built side (pre ++ (z ++ y)) p (suc n) k (d ∷ ds) = record {
        places = k.at ∷ b2.places;
        parses = rw (link-judged pre z y k d e c.0, b2.parses);
        says = ap₂ (λ (x : Content) (l : List Content). x ∷ l) (link-says pre z y k d e c.0) b2.says;
      } in
      subst (λ (s : Str). Built side s p (suc n) k (d ∷ ds)) (sym q) r
