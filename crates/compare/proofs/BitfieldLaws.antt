-- The cases of the pass over the bit fields. s and p are the current stream and pool, b and q the released ones. Assumes nothing.
use mathlib.Core.Path.{◌≡◌, refl, sym, ap, ◌∙◌}
use mathlib.Core.Bool.{Bool, true, false, ◌&&◌}
use Prim.Native.Nat.{ℕ}
use lib.Dec.{eqb}
use borrow.Author.Tests.{eq-eqb, ne_eqb}
use Rattle.std.specs.Prelude.{Result, Ok, Err, ⊤, Some, None}
use Rattle.record.specs.Base.{Str, or_else}
use Rattle.record.specs.Schema as M
use Rattle.record.specs.Stretch.{text_of}
use Rattle.record.specs.Commands.{start}
use Rattle.record.specs.Lists.{bitfield_of, member_of}
use Rattle.record.specs.Steps.{bitfields_at, members_at, BitfieldsFrom, MembersFrom, bitfield_in, member_in, bitfield_found, member_found}
use Rattle.record.specs.declared.text.Text.{Text}
use Rattle.record.specs.declared.command.Cursor.{Cursor}
use Rattle.record.specs.declared.command.Bitfield.{Bitfield}
use Rattle.record.specs.declared.command.Member.{Member}
use Rattle.record.proofs.ListLaws.{find_none, find-hit, find-miss}
use Rattle.record.proofs.StepLaws.{members-over-now, members-now, bitfields-over-now, bitfields-now}
use Rattle.definition.specs.Verdicts.{member_renamed, member_gone, bit_moved}
use Rattle.definition.specs.Pass.{◌then◌, ensure, on_found}
use Rattle.definition.specs.Bitfields.{member_width, span_in, check_member, check_members, check_bitfield, check_bitfields}
use Rattle.compare.specs.Sought.{spans_of, SpanFrom}
use Rattle.verdicts.specs.Meaning.{violation, meaning}
use Rattle.verdicts.specs.declared.verdict.Verdict.{Verdict}
use Rattle.verdicts.specs.declared.verdict.Verdict.TheVariants.{BitFieldGone, MemberRenamed, MemberGone, BitMoved, WidthChanged}
use Rattle.verdicts.proofs.PassLaws.{HandedOn}
use Rattle.verdicts.proofs.Each.{each-end, each_on, each-stop}
use Rattle.record.specs.Commands.{Step}
use Rattle.record.specs.declared.command as D

-- a member by its bit and width
pub record SpanOn (bit wide : ℕ) (s : Str) (a b : ℕ) : Type 0 where
  pub same : (p : Str) → span_in bit wide (members_at s p a) ≡ span_in bit wide (members_at s p b)

pub span-here : (bit wide : ℕ) (s : Str) (a : ℕ) → SpanOn bit wide s a a
span-here bit wide s a = record { same = λ p. refl }

module _ (bit wide : ℕ) (s : Str) (a at : ℕ) (r : Step D.Member.Member) (i : SpanOn bit wide s a at) (f : MembersFrom s at r) where
  pub span_none : r ≡ None → SpanFrom bit wide s a None
  unfolding span_in
  span_none m = record { this = λ p. i.same p ∙ find_none (λ (m : M.Member). eqb m.bit bit && eqb (member_width m) wide) _ (members-over-now s at r f p m) }

  module _ (e : Member) (k : Cursor) (t : Bool) (m : r ≡ Some (e, k)) (h : t ≡ spans_of e bit wide) where
    pub span-hit : t ≡ true → SpanFrom bit wide s a (Some (e, k))
    unfolding span_in spans_of member_width
    span-hit g = record { this = λ p. i.same p ∙ find-hit (λ (m : M.Member). eqb m.bit bit && eqb (member_width m) wide) _ _ _ (members-now s at r f p e k m) (sym h ∙ g) }

    pub span-miss : t ≡ false → SpanOn bit wide s a k.at
    unfolding span_in spans_of member_width
    span-miss g = record { same = λ p. i.same p ∙ find-miss (λ (m : M.Member). eqb m.bit bit && eqb (member_width m) wide) _ _ _ (members-now s at r f p e k m) (sym h ∙ g) }

pub ruleset span-laws = (span_none, span-hit, span-miss)

-- a member that no member has the name of now
module _ (s : Str) (o n : Text) (at bit wide : ℕ) (i : Step D.Member.Member) (j : SpanFrom bit wide s at i) where
  pub unnamed-renamed : (e : Member) (k : Cursor) → i ≡ Some (e, k)
      → (p q : Str) → meaning p q (Err (MemberRenamed o n e.name)) ≡ on_found (span_in bit wide (members_at s p at)) (member_gone (text_of q o) (text_of q n)) (λ (m : M.Member). member_renamed (text_of q o) (text_of q n) m.name)
  unfolding meaning violation on_found
  unnamed-renamed e k g p q = rw (j.this p, g)

  pub unnamed-gone : i ≡ None
      → (p q : Str) → meaning p q (Err (MemberGone o n)) ≡ on_found (span_in bit wide (members_at s p at)) (member_gone (text_of q o) (text_of q n)) (λ (m : M.Member). member_renamed (text_of q o) (text_of q n) m.name)
  unfolding meaning violation on_found
  unnamed-gone g p q = rw (j.this p, g)

pub ruleset unnamed-laws = (unnamed-renamed, unnamed-gone)

-- one member
module _ (s p q x : Str) (o : Text) (at d : ℕ) (w : Member) (r : Step D.Member.Member) (t : x ≡ text_of q w.name) (c : d ≡ or_else w.width 1) (h : member_in x (members_at s p at) ≡ member_found s p r) where
  named : member_in (text_of q w.name) (members_at s p at) ≡ member_found s p r
  named = ap (λ y. member_in y (members_at s p at)) (sym t) ∙ h

  module _ (e : Member) (k : Cursor) (m : r ≡ Some (e, k)) where
    pub member-moved : (e.bit ≡ w.bit → ⊥) → meaning p q (Err (BitMoved o w.name w.bit e.bit)) ≡ check_member (text_of q o) (members_at s p at) (member_of q w)
    unfolding meaning violation check_member on_found ensure ◌then◌ bit_moved
    member-moved g = rw (named, m, ne_eqb e.bit w.bit g)

    module _ (g : e.bit ≡ w.bit) (u : ℕ) (l : u ≡ or_else e.width 1) where
      pub member-wide : (u ≡ d → ⊥) → meaning p q (Err (WidthChanged o w.name d u)) ≡ check_member (text_of q o) (members_at s p at) (member_of q w)
      unfolding meaning violation check_member on_found ensure ◌then◌ member_width
      member-wide z = rw (named, m, eq-eqb e.bit w.bit g, ← c, ← l, ne_eqb u d z)

      pub member-same : u ≡ d → meaning p q (Ok tt) ≡ check_member (text_of q o) (members_at s p at) (member_of q w)
      unfolding meaning check_member on_found ensure ◌then◌ member_width
      member-same z = rw (named, m, eq-eqb e.bit w.bit g, ← c, ← l, eq-eqb u d z)

  pub member-unnamed : (v : Result ⊤ Verdict) → r ≡ None
      → ((x y : Str) → meaning x y v ≡ on_found (span_in w.bit d (members_at s x at)) (member_gone (text_of y o) (text_of y w.name)) (λ (m : M.Member). member_renamed (text_of y o) (text_of y w.name) m.name))
      → meaning p q v ≡ check_member (text_of q o) (members_at s p at) (member_of q w)
  unfolding check_member on_found member_width
  member-unnamed v m z = rw (named, m, ← c) (z p q)

pub ruleset member-laws = (member-moved, member-wide, member-same, member-unnamed)

-- the members of a bit field
module _ (s p b q : Str) (o : Text) (is at : ℕ) (r : Step D.Member.Member) (f : MembersFrom b at r) where
  pub all_end : r ≡ None → check_members (text_of q o) (members_at s p is) (members_at b q at) ≡ meaning p q (Ok tt)
  unfolding check_members
  all_end m = each-end _ _ p q (members-over-now b at r f q m)

  module _ (e : Member) (k : Cursor) (v : Result ⊤ Verdict) (m : r ≡ Some (e, k)) (h : meaning p q v ≡ check_member (text_of q o) (members_at s p is) (member_of q e)) where
    pub all-on : v ≡ Ok tt → check_members (text_of q o) (members_at s p is) (members_at b q at) ≡ check_members (text_of q o) (members_at s p is) (members_at b q k.at)
    unfolding check_members
    all-on g = each_on _ _ p q _ _ v (members-now b at r f q e k m) h g

    pub all-stop : (z : Result ⊤ Verdict) → HandedOn v z → check_members (text_of q o) (members_at s p is) (members_at b q at) ≡ meaning p q z
    unfolding check_members
    all-stop z g = each-stop _ _ p q _ _ v (members-now b at r f q e k m) h z g

pub ruleset members-laws = (all_end, all-on, all-stop)

-- one bit field
module _ (s p b q x : Str) (w : Bitfield) (at : ℕ) (z : Cursor) (i : Step D.Bitfield.Bitfield) (t : x ≡ text_of q w.name) (y : z ≡ start) (h : bitfield_in x (bitfields_at s p z.at) ≡ bitfield_found s p i) where
  sought : bitfield_in (text_of q w.name) (bitfields_at s p 0) ≡ bitfield_found s p i
  sought = rw (← t, ← ap (λ (c : Cursor). c.at) y) h

  pub bitfield-gone : i ≡ None → meaning p q (Err (BitFieldGone w.name)) ≡ check_bitfield (bitfields_at s p 0) (bitfield_of q w (members_at b q at))
  unfolding meaning violation check_bitfield on_found
  bitfield-gone g = rw (sought, g)

  pub bitfield-there : (d : Bitfield) (j : Cursor) (v : Result ⊤ Verdict) → i ≡ Some (d, j) → meaning p q v ≡ check_members (text_of q w.name) (members_at s p j.at) (members_at b q at)
      → meaning p q v ≡ check_bitfield (bitfields_at s p 0) (bitfield_of q w (members_at b q at))
  unfolding check_bitfield on_found
  bitfield-there d j v g l = rw (sought, g) l

pub ruleset bitfield-laws = (bitfield-gone, bitfield-there)

-- the bit fields of a record
module _ (s p b q : Str) where
  pub bitfields-begin : (z : Cursor) → z ≡ start → check_bitfields (bitfields_at s p 0) (bitfields_at b q 0) ≡ check_bitfields (bitfields_at s p 0) (bitfields_at b q z.at)
  bitfields-begin z y = ap (λ (c : Cursor). check_bitfields (bitfields_at s p 0) (bitfields_at b q c.at)) (sym y)

  module _ (at : ℕ) (r : Step D.Bitfield.Bitfield) (f : BitfieldsFrom b at r) where
    pub every-end : r ≡ None → check_bitfields (bitfields_at s p 0) (bitfields_at b q at) ≡ meaning p q (Ok tt)
    unfolding check_bitfields
    every-end m = each-end _ _ p q (bitfields-over-now b at r f q m)

    module _ (e : Bitfield) (k : Cursor) (v : Result ⊤ Verdict) (m : r ≡ Some (e, k)) (h : meaning p q v ≡ check_bitfield (bitfields_at s p 0) (bitfield_of q e (members_at b q k.at))) where
      pub every-on : v ≡ Ok tt → check_bitfields (bitfields_at s p 0) (bitfields_at b q at) ≡ check_bitfields (bitfields_at s p 0) (bitfields_at b q k.at)
      unfolding check_bitfields
      every-on g = each_on _ _ p q _ _ v (bitfields-now b at r f q e k m) h g

      pub every-stop : (z : Result ⊤ Verdict) → HandedOn v z → check_bitfields (bitfields_at s p 0) (bitfields_at b q at) ≡ meaning p q z
      unfolding check_bitfields
      every-stop z g = each-stop _ _ p q _ _ v (bitfields-now b at r f q e k m) h z g

pub ruleset bitfields-laws = (every-end, every-on, every-stop)
