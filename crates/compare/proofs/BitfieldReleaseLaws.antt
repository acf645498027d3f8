-- The cases of the pass over the releases of bit fields. s and p are the current stream and pool, b and q the released ones. Assumes nothing.
use mathlib.Core.Path.{◌≡◌, refl, sym, ap, ◌∙◌}
use mathlib.Core.Bool.{Bool, true, false}
use Prim.Native.Nat.{ℕ}
use Rattle.std.specs.Prelude.{Result, Ok, Err, ⊤, Option, Some, None}
use Rattle.record.specs.Base.{Str, eqs, or_else, or_option, map_option}
use Rattle.record.specs.Stretch.{text_of}
use Rattle.record.specs.Commands.{start}
use Rattle.record.specs.Lists.{opt_of, bitfield_of, member_of}
use Rattle.record.specs.Steps.{bitfields_at, members_at, BitfieldsFrom, MembersFrom, bitfield_in, member_in, bitfield_found, member_found}
use Rattle.record.specs.Dates.{Dated}
use Rattle.record.specs.declared.text.Text.{Text}
use Rattle.record.specs.declared.command.Cursor.{Cursor}
use Rattle.record.specs.declared.command.Bitfield.{Bitfield}
use Rattle.record.specs.declared.command.Member.{Member}
use Rattle.record.proofs.StepLaws.{members-over-now, members-now, bitfields-over-now, bitfields-now}
use Rattle.definition.specs.Verdicts as D
use Rattle.definition.specs.Pass.{◌then◌, ensure, required}
use Rattle.verdicts.specs.Arguments.{item_of}
use Rattle.definition.specs.BitfieldReleases.{bitfield_release, member_release, check_arrived, check_member_arrived, check_members_arrived, check_bitfield_arrived, check_bitfield_releases}
use Rattle.compare.specs.Required.{RequiredText}
use Rattle.compare.specs.Shipped.{shipped_of, ShippedWith}
use Rattle.compare.specs.Sought.{BitfieldShipped}
use Rattle.verdicts.specs.Meaning.{violation, meaning}
use Rattle.verdicts.specs.declared.arguments.Item.{Item}
use Rattle.verdicts.specs.declared.arguments.Item.TheVariants as I
use Rattle.compare.specs.declared.shipped.Shipped.{Shipped}
use Rattle.compare.specs.declared.shipped.Shipped.TheVariants.{Absent, Named, Unstated}
use Rattle.verdicts.specs.declared.verdict.Verdict.{Verdict}
use Rattle.verdicts.specs.declared.verdict.Verdict.TheVariants.{BitsLate, BitsRedated}
use Rattle.verdicts.proofs.PassLaws.{HandedOn, stays}
use Rattle.verdicts.proofs.Each.{each-end, each_on, each-stop}
use Rattle.record.specs.Commands.{Step}
use Rattle.record.specs.declared.command as C

-- what the copy says of a bit field
module _ (w : Step C.Bitfield.Bitfield) where
  pub bitfield-absent : w ≡ None → BitfieldShipped w Absent
  unfolding bitfield_release map_option
  bitfield-absent e = record { this = λ s p. rw e }

  pub bitfield-there : (d : Bitfield) (j : Cursor) (r : Shipped) → w ≡ Some (d, j) → ShippedWith d.first_release r → BitfieldShipped w r
  unfolding bitfield_release map_option
  bitfield-there d j r e h = record { this = λ s p. rw e (h.this p) }

pub ruleset bitfield-shipped-laws = (bitfield-absent, bitfield-there)

-- of a member
module _ (b q n : Str) (w : Step C.Bitfield.Bitfield) where
  pub member-outside : w ≡ None → shipped_of q Absent ≡ member_release (bitfield_found b q w) n
  unfolding member_release
  member-outside e = rw e

  module _ (d : Bitfield) (j : Cursor) (e : w ≡ Some (d, j)) (i : Step C.Member.Member) (h : member_in n (members_at b q j.at) ≡ member_found b q i) where
    pub member-absent : i ≡ None → shipped_of q Absent ≡ member_release (bitfield_found b q w) n
    unfolding member_release map_option
    member-absent g = rw (e, h, g)

    pub member-there : (m : Member) (k : Cursor) (t : Option Text) (r : Shipped) → i ≡ Some (m, k) → Dated m.first_release d.first_release t → ShippedWith t r
        → shipped_of q r ≡ member_release (bitfield_found b q w) n
    unfolding member_release map_option
    member-there m k t r g u v = rw (e, h, g) (v.this q ∙ ap Some (u.release q))

pub ruleset member-shipped-laws = (member-outside, member-absent, member-there)

-- what there is now against what the copy says of it
module _ (p q : Str) (now : Text) (w : Item) (t : Text) (d : Shipped) (x y : Str) (c : Bool) (i : x ≡ text_of p t) (h : c ≡ eqs x y) where
  module _ (m : d ≡ Absent) (j : y ≡ text_of p now) where
    pub arrived-now : c ≡ true → meaning p q (Ok tt) ≡ check_arrived (text_of p now) (item_of p w) (text_of p t) (shipped_of q d)
    unfolding meaning check_arrived ensure
    arrived-now g = rw (m, ← i, ← j, ← h, g)

    pub arrived-late : c ≡ false → meaning p q (Err (BitsLate w now t)) ≡ check_arrived (text_of p now) (item_of p w) (text_of p t) (shipped_of q d)
    unfolding meaning violation check_arrived ensure
    arrived-late g = rw (m, ← i, ← j, ← h, g)

  module _ (u : Text) (m : d ≡ Named u) (j : y ≡ text_of q u) where
    pub arrived-then : c ≡ true → meaning p q (Ok tt) ≡ check_arrived (text_of p now) (item_of p w) (text_of p t) (shipped_of q d)
    unfolding meaning check_arrived ensure
    arrived-then g = rw (m, ← i, ← j, ← h, g)

    pub arrived-redated : c ≡ false → meaning p q (Err (BitsRedated w u t)) ≡ check_arrived (text_of p now) (item_of p w) (text_of p t) (shipped_of q d)
    unfolding meaning violation check_arrived ensure
    arrived-redated g = rw (m, ← i, ← j, ← h, g)

pub arrived-unstated : (p q : Str) (now : Text) (w : Item) (t : Text) (d : Shipped) → d ≡ Unstated → meaning p q (Ok tt) ≡ check_arrived (text_of p now) (item_of p w) (text_of p t) (shipped_of q d)
unfolding meaning check_arrived
arrived-unstated p q now w t d m = rw m

pub ruleset arrived-laws = (arrived-now, arrived-late, arrived-then, arrived-redated, arrived-unstated)

-- one member
required-own : (own parent : Option Str) → required (or_option own parent) ≡ or_else own (required parent)
unfolding required or_option or_else
required-own None parent = refl
required-own (Some t) parent = refl

pub member-arrived : (p b q x : Str) (now owner t : Text) (since o : Option Text) (w : Step C.Bitfield.Bitfield) (m : Member) (d : Shipped) (v : Result ⊤ Verdict)
    → x ≡ text_of p m.name → Dated m.first_release since o → RequiredText o t → shipped_of q d ≡ member_release (bitfield_found b q w) x
    → meaning p q v ≡ check_arrived (text_of p now) (item_of p (I.Within owner m.name)) (text_of p t) (shipped_of q d)
    → meaning p q v ≡ check_member_arrived (text_of p now) (text_of p owner) (required (opt_of p since)) (bitfield_found b q w) (member_of p m)
unfolding check_member_arrived
member-arrived p b q x now owner t since o w m d v i u r h g =
    let a : text_of p t ≡ or_else (opt_of p m.first_release) (required (opt_of p since)) =
    r.this p ∙ ap required (u.release p) ∙ required-own (opt_of p m.first_release) (opt_of p since) in
    rw (← a, ← (h ∙ ap (member_release (bitfield_found b q w)) i)) g

-- the members of a bit field
module _ (s p b q : Str) (now owner : Text) (since : Option Text) (w : Step C.Bitfield.Bitfield) (at : ℕ) (r : Step C.Member.Member) (f : MembersFrom s at r) where
  abbrev rest : ℕ → D.Verdict
  rest n = check_members_arrived (text_of p now) (text_of p owner) (required (opt_of p since)) (bitfield_found b q w) (members_at s p n)

  pub all_end : r ≡ None → rest at ≡ meaning p q (Ok tt)
  unfolding check_members_arrived
  all_end m = each-end _ _ p q (members-over-now s at r f p m)

  module _ (e : Member) (k : Cursor) (v : Result ⊤ Verdict) (m : r ≡ Some (e, k))
      (h : meaning p q v ≡ check_member_arrived (text_of p now) (text_of p owner) (required (opt_of p since)) (bitfield_found b q w) (member_of p e)) where
    pub all-on : v ≡ Ok tt → rest at ≡ rest k.at
    unfolding check_members_arrived
    all-on g = each_on _ _ p q _ _ v (members-now s at r f p e k m) h g

    pub all-stop : (z : Result ⊤ Verdict) → HandedOn v z → rest at ≡ meaning p q z
    unfolding check_members_arrived
    all-stop z g = each-stop _ _ p q _ _ v (members-now s at r f p e k m) h z g

pub ruleset members-laws = (all_end, all-on, all-stop)

-- one bit field
module _ (s p b q x : Str) (now t : Text) (d : Bitfield) (at : ℕ) (z : Cursor) (i : Step C.Bitfield.Bitfield) (a : Shipped) (v : Result ⊤ Verdict)
    (y : x ≡ text_of p d.name) (f : z ≡ start) (h : bitfield_in x (bitfields_at b q z.at) ≡ bitfield_found b q i)
    (r : RequiredText d.first_release t) (u : BitfieldShipped i a)
    (l : meaning p q v ≡ check_arrived (text_of p now) (item_of p (I.Bitfield d.name)) (text_of p t) (shipped_of q a)) where
  sought : bitfield_in (text_of p d.name) (bitfields_at b q 0) ≡ bitfield_found b q i
  sought = rw (← y, ← ap (λ (c : Cursor). c.at) f) h

  abbrev whole : D.Verdict
  whole = check_bitfield_arrived (text_of p now) (bitfields_at b q 0) (bitfield_of p d (members_at s p at))

  abbrev members : D.Verdict
  members = check_members_arrived (text_of p now) (text_of p d.name) (required (opt_of p d.first_release)) (bitfield_found b q i) (members_at s p at)

  in_parts : whole ≡ (meaning p q v then members)
  unfolding check_bitfield_arrived
  in_parts = rw (sought, l, u.this b q, r.this p)

  pub bitfield-stops : (z : Result ⊤ Verdict) → HandedOn v z → meaning p q z ≡ whole
  bitfield-stops z g = sym (in_parts ∙ stays p q v z members g)

  pub bitfield-goes-on : (c : Result ⊤ Verdict) → v ≡ Ok tt → meaning p q c ≡ members → meaning p q c ≡ whole
  unfolding ◌then◌ meaning
  bitfield-goes-on c g k = k ∙ sym (in_parts ∙ ap (λ (y : Result ⊤ Verdict). meaning p q y then members) g)

pub ruleset bitfield-laws = (bitfield-stops, bitfield-goes-on)

-- the bit fields of a record
module _ (s p b q : Str) (now : Text) where
  abbrev left : ℕ → D.Verdict
  left n = check_bitfield_releases (text_of p now) (bitfields_at s p n) (bitfields_at b q 0)

  pub releases-begin : (z : Cursor) → z ≡ start → left 0 ≡ left z.at
  releases-begin z y = ap (λ (c : Cursor). left c.at) (sym y)

  module _ (at : ℕ) (r : Step C.Bitfield.Bitfield) (f : BitfieldsFrom s at r) where
    pub every-end : r ≡ None → left at ≡ meaning p q (Ok tt)
    unfolding check_bitfield_releases
    every-end m = each-end _ _ p q (bitfields-over-now s at r f p m)

    module _ (e : Bitfield) (k : Cursor) (v : Result ⊤ Verdict) (m : r ≡ Some (e, k))
        (h : meaning p q v ≡ check_bitfield_arrived (text_of p now) (bitfields_at b q 0) (bitfield_of p e (members_at s p k.at))) where
      pub every-on : v ≡ Ok tt → left at ≡ left k.at
      unfolding check_bitfield_releases
      every-on g = each_on _ _ p q _ _ v (bitfields-now s at r f p e k m) h g

      pub every-stop : (z : Result ⊤ Verdict) → HandedOn v z → left at ≡ meaning p q z
      unfolding check_bitfield_releases
      every-stop z g = each-stop _ _ p q _ _ v (bitfields-now s at r f p e k m) h z g

pub ruleset releases-laws = (every-end, every-on, every-stop)
