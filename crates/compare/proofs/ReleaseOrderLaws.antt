-- The ways out of the pass over the releases. p is the current pool, q the released one. Assumes nothing.
use mathlib.Core.Path.{◌≡◌, sym, ap, ◌∙◌}
use mathlib.Core.Bool.{Bool, true, false}
use Rattle.std.specs.Prelude.{Result, Ok, Err, ⊤, Option, Some, None}
use Rattle.record.specs.Base.{Str}
use Rattle.record.specs.Release.{release_parts, earlier, first_naming}
use Rattle.record.specs.Stretch.{text_of}
use Rattle.record.specs.Lists.{opt_of}
use Rattle.record.specs.declared.text.Text.{Text}
use Rattle.record.specs.declared.release.Release.{Release}
use Rattle.definition.specs.Pass.{ensure}
use Rattle.definition.specs.ReleaseOrder.{check_earlier, check_copy, check_release_order}
use Rattle.verdicts.specs.Meaning.{violation, meaning}
use Rattle.verdicts.specs.declared.verdict.Verdict.{Verdict}
use Rattle.verdicts.specs.declared.verdict.Verdict.TheVariants.{NowUnreadable, BeforeNaming, WasUnreadable, NotLater}

-- the copy's release: x is its bytes and r what was read there
module _ (p q x : Str) (now was : Text) (n : Release) (r : Option Release) (t : x ≡ text_of q was) (h : r ≡ release_parts x) where
  was_read : release_parts (text_of q was) ≡ r
  was_read = sym (h ∙ ap release_parts t)

  pub was-unread : r ≡ None → meaning p q (Err (WasUnreadable was)) ≡ check_earlier (text_of p now) n (text_of q was) (release_parts (text_of q was))
  unfolding meaning violation check_earlier
  was-unread m = rw (was_read, m)

  module _ (w : Release) (b : Bool) (m : r ≡ Some w) (g : b ≡ earlier w n) where
    pub was-earlier : b ≡ true → meaning p q (Ok tt) ≡ check_earlier (text_of p now) n (text_of q was) (release_parts (text_of q was))
    unfolding meaning check_earlier ensure
    was-earlier e = rw (was_read, m, sym g ∙ e)

    pub was-later : b ≡ false → meaning p q (Err (NotLater was now)) ≡ check_earlier (text_of p now) n (text_of q was) (release_parts (text_of q was))
    unfolding meaning violation check_earlier ensure
    was-later e = rw (was_read, m, sym g ∙ e)

pub ruleset earlier-laws = (was-unread, was-earlier, was-later)

-- the current record's release: x is its bytes and r what was read there
module _ (p q x : Str) (now : Text) (copy : Option Text) (r : Option Release) (t : x ≡ text_of p now) (h : r ≡ release_parts x) where
  now-read : release_parts (text_of p now) ≡ r
  now-read = sym (h ∙ ap release_parts t)

  pub now-unread : r ≡ None → meaning p q (Err (NowUnreadable now)) ≡ check_release_order (text_of p now) (opt_of q copy)
  unfolding meaning violation check_release_order check_copy
  now-unread m = rw (now-read, m)

  module _ (n : Release) (m : r ≡ Some n) where
    pub copy-names : (was : Text) (v : Result ⊤ Verdict) → copy ≡ Some was → meaning p q v ≡ check_earlier (text_of p now) n (text_of q was) (release_parts (text_of q was))
        → meaning p q v ≡ check_release_order (text_of p now) (opt_of q copy)
    unfolding check_release_order check_copy
    copy-names was v g k = rw (now-read, m, g) k

    module _ (g : copy ≡ None) (o : Release) (b : Bool) (f : o ≡ first_naming) (k : b ≡ earlier n o) where
      against-first : earlier n first_naming ≡ b
      against-first = sym (k ∙ ap (earlier n) f)

      pub before-naming : b ≡ true → meaning p q (Err (BeforeNaming now)) ≡ check_release_order (text_of p now) (opt_of q copy)
      unfolding meaning violation check_release_order check_copy ensure
      before-naming e = rw (now-read, m, g, against-first, e)

      pub names-itself : b ≡ false → meaning p q (Ok tt) ≡ check_release_order (text_of p now) (opt_of q copy)
      unfolding meaning check_release_order check_copy ensure
      names-itself e = rw (now-read, m, g, against-first, e)

pub ruleset release-order-laws = (now-unread, copy-names, before-naming, names-itself)
