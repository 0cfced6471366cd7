-- A state that is not refused, clause by clause. Assumes nothing.
--     valid-split, valid-join    a valid state, and its clauses
--     site-split, site-join      a valid site: its unit and its firmware
--     state-taken, state-takes   neither Memory (1) nor Foreign (2) applies
--     state-other, state-foreign    one of them does
--     bad_files                  laid-out definitions that are not good make the state one that is not valid
--     files-judged, files-fail, rest-valid    the parts of validity that the code judges one by one
--     files-good                 what valid files give
--     within_split, within_join  numbers within their limits, one by one
use mathlib.Core.Path.{◌≡◌, refl, ap₂, ◌∙◌}
use mathlib.Core.List.{List}
use mathlib.Core.Bool.{Bool, true, false, ◌&&◌}
use Prim.Native.Nat.{ℕ, ◌≤◌, ◌<◌}
use native.Mathlib.Omega.{arith}
use borrow.Author.Tests.{eq-eqb, ne_eqb, leb-true, le-leb}
use lib.Dec.{leb}
use lib.ListN.{get_or}
use Rattle.std.proofs.lemmas.Grind.{common_steps}
use Rattle.basics.proofs.Tests.{and_left}
use Rattle.modbus.specs.Frame.{good_unit}
use Rattle.archive.specs.Layout.{Layout, layout_of, good_files, has_room, limit_of, all_files}
use Rattle.archive.specs.Alarms.{good_slots}
use Rattle.archive.proofs.Layouts.{every-at, every-all}
use Rattle.state.specs.declared.parts.Site.{Site}
use Rattle.state.specs.declared.parts.State.{State}
use Rattle.state.specs.Firmware.{good_firmware}
use Rattle.state.specs.State.{depth_of, laid_out}
use Rattle.state.specs.Validity.{flags_valid, good_triggers, settings_valid, within_limits, files_valid, site_valid, valid, state_number}

-- ---- a valid state
pub record Clauses (s : State) : Type 0 where
  pub flags : flags_valid s.flags ≡ true
  pub drafts : good_files s.settings.draft.groups ≡ true
  pub triggers : good_triggers s.settings.triggers ≡ true
  pub slots : good_slots s.settings.slots ≡ true
  pub laid : good_files s.files.layout.groups ≡ true
  pub room : has_room (laid_out s) s.site.archive_length ≡ true
  pub pointers : within_limits s.files.pointers (laid_out s) ≡ true
  pub requested : within_limits s.line.requested (laid_out s) ≡ true
  pub site : site_valid s.site ≡ true

pub valid-split : (s : State) → valid s ≡ true → Clauses s
unfolding valid settings_valid files_valid
valid-split s v = grind (arith, common_steps)

pub valid-join : (s : State) → Clauses s → valid s ≡ true
unfolding valid settings_valid files_valid
valid-join s k =
    simp (k.flags, k.drafts, k.triggers, k.slots, k.laid, k.room, k.pointers, k.requested, k.site)

pub site-split : (site : Site) → site_valid site ≡ true → (good_unit site.unit ≡ true) × (good_firmware site.firmware ≡ true)
unfolding site_valid
site-split site v = grind (arith, common_steps)

pub site-join : (site : Site) → good_unit site.unit ≡ true → good_firmware site.firmware ≡ true → site_valid site ≡ true
unfolding site_valid
site-join site unit firmware = simp (unit, firmware)

-- ---- a state that is not refused
pub state-taken : (s : State) (size : ℕ) → state_number s size ≡ 0 → (size ≡ s.site.archive_length) × (valid s ≡ true)
unfolding state_number
state-taken s size taken = grind (arith, common_steps)

pub state-takes : (s : State) (size : ℕ) → size ≡ s.site.archive_length → valid s ≡ true → state_number s size ≡ 0
unfolding state_number
state-takes s size same v = simp (eq-eqb _ _ same, v)

pub state-other : (s : State) (size : ℕ) → (size ≡ s.site.archive_length → ⊥) → 1 ≡ state_number s size
unfolding state_number
state-other s size other = simp (ne_eqb _ _ other)

pub state-foreign : (s : State) (size : ℕ) → size ≡ s.site.archive_length → valid s ≡ false → 2 ≡ state_number s size
unfolding state_number
state-foreign s size same bad = simp (eq-eqb _ _ same, bad)

-- ---- a part that fails makes the whole fail
never : (a : Bool) → (a && false) ≡ false
never true = refl
never false = refl

pub bad_files : (s : State) → good_files s.files.layout.groups ≡ false → valid s ≡ false
unfolding valid files_valid
bad_files s bad = grind (arith, common_steps)

module _ (s : State) where
  abbrev files : Bool
  files = files_valid (laid_out s) s.site.archive_length s.files.pointers s.line.requested

  -- the depth and the length of memory that the code judges them by are the state's
  pub files-judged : (depth size : ℕ) (good : Bool) → depth ≡ depth_of s.site → size ≡ s.site.archive_length →
      good ≡ files_valid (layout_of s.files.layout depth) size s.files.pointers s.line.requested → good ≡ files
  files-judged depth size good deep same judged =
      judged ∙ ap₂ (λ d n. files_valid (layout_of s.files.layout d) n s.files.pointers s.line.requested) deep same

  pub files-fail : files ≡ false → valid s ≡ false
  unfolding valid
  files-fail bad = simp (bad, never)

  -- where the files are valid, the other parts decide
  pub rest-valid : files ≡ true → (settings site r : Bool) → settings ≡ settings_valid s.settings → site ≡ site_valid s.site →
      r ≡ flags_valid s.flags && (settings && site) → r ≡ valid s
  unfolding valid
  rest-valid laid settings site r settles lies told =
      told ∙ ap₂ (λ x y. flags_valid s.flags && (x && y)) settles lies ∙ simp laid

pub files-good : (l : Layout) (size : ℕ) (pointers requested : List ℕ) → files_valid l size pointers requested ≡ true → good_files l.groups ≡ true
unfolding files_valid
files-good l size pointers requested v = and_left (good_files l.groups) _ v

-- ---- numbers within their limits
pub within_split : (numbers : List ℕ) (l : Layout) → within_limits numbers l ≡ true → (f : ℕ) → f < all_files → get_or numbers f 0 ≤ limit_of l f
unfolding within_limits
within_split numbers l holds f below = leb-true _ _ (every-at (λ i. leb (get_or numbers i 0) (limit_of l i)) all_files f holds below)

pub within_join : (numbers : List ℕ) (l : Layout) → ((f : ℕ) → f < all_files → get_or numbers f 0 ≤ limit_of l f) → within_limits numbers l ≡ true
unfolding within_limits
within_join numbers l each = every-all (λ i. leb (get_or numbers i 0) (limit_of l i)) all_files (λ f below. le-leb _ _ (each f below))
