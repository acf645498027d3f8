-- First releases: check_first_releases and check_arrival of layout.rs, verdicts 16 to 19. First releases compare as text. Assumes nothing.
use Rattle.std.specs.Prelude.{List, ◌&&◌, ◌||◌, not, Option, Some, None}
use Rattle.record.specs.Base.{Str, eqs, is_some, or_option, map_option, find_last}
use Rattle.record.specs.Schema.{Const, Enum, EnumValue, Key}
use Rattle.record.specs.Steps.{value_in}
use Rattle.definition.specs.Verdicts.{Verdict, pass, Item, a_constant, an_enum, a_key, within, value_undated, late, redated, backdated}
use Rattle.definition.specs.Pass.{◌then◌, ensure, required, each, on_found}

-- Of an item the copy says nothing, where it has none such (01's absent), or a release (named), or that it was there (unstated): none, some (some r)
-- or some none. 01: of two released ones of one name the later counts here; one outside the plugin API hides none

unfoldable pub constant_release : Str → List Const → Option (Option Str)
constant_release n l = map_option (λ (c : Const). c.since) (find_last (λ (c : Const). c.api && eqs c.name n) l)

unfoldable pub api_enum : Str → List Enum → Option Enum
api_enum n l = find_last (λ (e : Enum). e.api && eqs e.name n) l

unfoldable pub enum_release : Option Enum → Option (Option Str)
enum_release was = map_option (λ (e : Enum). e.since) was

-- a value's own release, else its enum's
unfoldable pub value_release : Option Enum → Str → Option (Option Str)
value_release None n = None
value_release (Some was) n = map_option (λ (v : EnumValue). or_option v.since was.since) (value_in n was.values)

unfoldable pub key_release : Str → List Key → Option (Option Str)
key_release n l = map_option (λ (k : Key). k.since) (find_last (λ (k : Key). eqs k.name n) l)

-- the current release, and the copy's if it names one
module _ (now : Str) (copy : Option Str) where
  -- what it is, the release it names, and what the copy says of it
  unfoldable pub check_arrival : Item → Str → Option (Option Str) → Verdict
  check_arrival what names None = ensure (eqs names now) (late what now names)
  check_arrival what names (Some (Some was)) = ensure (eqs names was) (redated what was names)
  check_arrival what names (Some None) = ensure (not (eqs names now)) (backdated what copy now)

  -- one of the plugin API; without a first release it is passed over
  unfoldable pub check_constant_arrival : List Const → Const → Verdict
  check_constant_arrival was c =
      ensure (not c.api) (on_found c.since pass (λ (names : Str). check_arrival (a_constant c.name) names (constant_release c.name was)))

  unfoldable pub check_constant_arrivals : List Const → List Const → Verdict
  check_constant_arrivals is was = each (check_constant_arrival was) is

  -- the enum's name and first release, what it was, and one of its values
  unfoldable pub check_value_arrival : Str → Option Str → Option Enum → EnumValue → Verdict
  check_value_arrival owner since was v =
      on_found (or_option v.since since) pass (λ (release : Str).
      ensure (is_some (value_release was v.name) || is_some v.since || eqs release now) (value_undated owner v.name now release)
      then check_arrival (within owner v.name) release (value_release was v.name))

  unfoldable pub check_value_arrivals : Str → Option Str → Option Enum → List EnumValue → Verdict
  check_value_arrivals owner since was vs = each (check_value_arrival owner since was) vs

  -- one of the plugin API; without a first release it is passed over with its values
  unfoldable pub check_enum_arrival : List Enum → Enum → Verdict
  check_enum_arrival was e =
      ensure (not e.api)
      (on_found e.since pass (λ (names : Str).
      check_arrival (an_enum e.name) names (enum_release (api_enum e.name was))
      then check_value_arrivals e.name e.since (api_enum e.name was) e.values))

  unfoldable pub check_enum_arrivals : List Enum → List Enum → Verdict
  check_enum_arrivals is was = each (check_enum_arrival was) is

  unfoldable pub check_key_arrival : List Key → Key → Verdict
  check_key_arrival was k = check_arrival (a_key k.name) (required k.since) (key_release k.name was)

  unfoldable pub check_key_arrivals : List Key → List Key → Verdict
  check_key_arrivals is was = each (check_key_arrival was) is

  -- constants, enums and plugin keys, each current and released
  unfoldable pub check_first_releases : List Const → List Const → List Enum → List Enum → List Key → List Key → Verdict
  check_first_releases cs cs₀ es es₀ ks ks₀ = check_constant_arrivals cs cs₀ then check_enum_arrivals es es₀ then check_key_arrivals ks ks₀
