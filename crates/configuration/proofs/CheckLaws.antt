-- Laws of valid configurations: the entries are asked both things one by one; of several tests, one that fails decides alone.
-- Assumes nothing.
use Prim.Native.Nat.{ℕ, ◌-◌, ◌≤◌, ◌<◌}
use mathlib.Core.Path.{◌≡◌, refl, sym, ◌∙◌}
use mathlib.Core.List.{List, [], ◌∷◌, map}
use mathlib.Core.Bool.{Bool, true, false, ◌&&◌, and-true, and-false}
use lib.ListN.{length, take, drop, length-map, length-take}
use lib.Dec.{leb}
use mir.Syntax.{w8, w16}
use mir.Val.{Fits}
use native.Mathlib.Omega.{arith}
use borrow.Author.Tests.{le-leb, lt-leb}
use Rattle.std.specs.Prelude.{Ok, Err}
use Rattle.std.specs.List.{list_all}
use Rattle.octets.specs.declared.Refusal.TheVariants.{BadConfiguration}
use Rattle.address.specs.Kinds.{is_unicast}
use Rattle.configuration.specs.declared.Codec.{Codec as Place}
use Rattle.configuration.specs.declared.Config.{Config}
use Rattle.configuration.specs.Configuration.{between, right_codec, all_right, right_times, right_codecs, right_general, right_configuration}
use Rattle.configuration.specs.Meaning.{codec_by, codecs_by, configuration_by, format_inside, all_formats_inside, config_inside, right_config, checked}
use Rattle.configuration.specs.Private.{right_place}
use Rattle.configuration.proofs.EntryLaws.{length_codecs}

-- ---- packet times
pub times_order : (least most : ℕ) → Fits w8 most → 1 ≤ least → leb least most ≡ right_times least most
unfolding right_times
times_order least most f h = rw (le-leb 1 least h, le-leb most 255 (omega arith)) (sym (and-true (leb least most)))

-- ---- the entries
and_swap : (a b p q : Bool) → ((a && b) && (p && q)) ≡ ((a && p) && (b && q))
and_swap false b p q = refl
and_swap true false p q = sym (and-false p)
and_swap true true p q = refl

-- the code asks both of each entry
both_all : (ks : List Place) → list_all right_place ks ≡ (all_formats_inside ks && all_right (map codec_by ks))
unfolding all_formats_inside all_right
both_all [] = refl
both_all (k ∷ ks) =
    rw (both_all ks)
    (and_swap (format_inside k.format) (right_codec (codec_by k)) (all_formats_inside ks) (all_right (map codec_by ks)))

module _ (c : Config) where
  pub codecs_none : c.count < 1 → false ≡ (config_inside c && right_codecs (codecs_by c))
  unfolding right_codecs
  codecs_none h =
      let z : length (codecs_by c) < 1 = omega (arith, length_codecs c) in
      simp (lt-leb 1 (length (codecs_by c)) z, and-false)

  pub codecs_many : 8 < c.count → false ≡ (config_inside c && right_codecs (codecs_by c))
  unfolding config_inside
  codecs_many h = rw (lt-leb c.count 8 h)

  pub codecs_all : (u : Bool) → length c.codecs ≡ 8 → 1 ≤ c.count → c.count ≤ 8 → u ≡ list_all right_place (take (c.count - 0) (drop 0 c.codecs))
      → u ≡ (config_inside c && right_codecs (codecs_by c))
  unfolding config_inside right_codecs codecs_by
  codecs_all u eight h few e =
      let n : c.count - 0 ≡ c.count = omega arith in
      let l : c.count ≡ length (map codec_by (take c.count c.codecs)) = omega (arith, length-map (take c.count c.codecs) codec_by, length-take c.count c.codecs) in
      rw (← l, le-leb 1 c.count h, le-leb c.count 8 few) (rw n at e ∙ both_all (take c.count c.codecs))

pub ruleset codecs_right = (codecs_none, codecs_many, codecs_all)

-- ---- all but the codecs
module _ (c : Config) where
  pub general_port : c.port < 1 → false ≡ right_general (configuration_by c)
  unfolding right_general configuration_by
  general_port h = simp (lt-leb 1 c.port h, and-false)

  pub general_own : is_unicast c.own ≡ false → false ≡ right_general (configuration_by c)
  unfolding right_general configuration_by
  general_own h = rw h

  pub general_times : right_times c.least c.most ≡ false → false ≡ right_general (configuration_by c)
  unfolding right_general configuration_by
  general_times h = simp (h, and-false)

  pub general_t1 : between 1 30 c.t1 ≡ false → false ≡ right_general (configuration_by c)
  unfolding right_general configuration_by
  general_t1 h = simp (h, and-false)

  pub general_t2 : (u : Bool) → u ≡ between 1 30 c.t2 → 1 ≤ c.port → Fits w16 c.port → is_unicast c.own ≡ true → right_times c.least c.most ≡ true
      → between 1 30 c.t1 ≡ true → u ≡ right_general (configuration_by c)
  unfolding right_general configuration_by
  general_t2 u e p f o t t₁ = rw (e, le-leb 1 c.port p, le-leb c.port 65535 (omega arith), o, t, t₁)

pub ruleset generals = (general_port, general_own, general_times, general_t1, general_t2)

-- ---- the configuration
module _ (c : Config) where
  pub check_general : right_general (configuration_by c) ≡ false → Err BadConfiguration ≡ checked c
  unfolding checked right_config right_configuration
  check_general h = simp (h, and-false)

  module _ (g : right_general (configuration_by c) ≡ true) where
    right_is : (config_inside c && right_codecs (codecs_by c)) ≡ right_config c
    unfolding right_config right_configuration configuration_by
    right_is = rw g

    pub check_codecs : (config_inside c && right_codecs (codecs_by c)) ≡ false → Err BadConfiguration ≡ checked c
    unfolding checked
    check_codecs h = rw (← right_is, h)

    pub check_all : (config_inside c && right_codecs (codecs_by c)) ≡ true → Ok tt ≡ checked c
    unfolding checked
    check_all h = rw (← right_is, h)

pub ruleset checks = (check_general, check_codecs, check_all)
