-- The survey, a step at a time: what was found so far decides what the survey's outcome is, or what is left of it. Assumes nothing.
use mathlib.Core.Path.{◌≡◌, refl}
use Prim.Native.Nat.{ℕ, ◌-◌, ◌/◌, ◌≤◌, ◌<◌}
use native.Mathlib.Omega.{arith}
use mathlib.Core.List.{List}
use lib.ListN.{length}
use Rattle.std.specs.Prelude.{slice_index}
use Rattle.format.specs.Bytes.{AreBytes}
use Rattle.format.specs.Answer.{Refusal, ok, refused}
use Rattle.format.specs.Format.{version}
use Rattle.format.specs.Rules.{ours}
use Rattle.format.specs.Read as read
use Rattle.format.proofs.Answer.{ok_same, step, then_ok, then_refused}
use Rattle.survey.specs.Nodes.{block, counted, Small}
use Rattle.survey.specs.Reserve.{scan_from, ScanReady}
use Rattle.survey.specs.Survey.{header_of, names_of, survey_of}
use Rattle.survey.specs.declared.nodes.Passed.{Passed}
use Rattle.survey.specs.declared.header.Header.{Header}
use Rattle.survey.proofs.HeaderLaws.{Fits, header_fits}

module _ (b : List ℕ) where
  pub no_header : {r : Refusal} → header_of b ≡ refused r → survey_of b ≡ refused r
  unfolding survey_of
  no_header e = then_refused _ _ e

  module _ (h : Header) (isHeader : header_of b ≡ ok h) where
    pub no_list : {r : Refusal} → scan_from b h.reservations ≡ refused r → survey_of b ≡ refused r
    unfolding survey_of
    no_list e = then_ok _ _ isHeader (then_refused _ _ e)

    module _ (end : ℕ) (isEnd : scan_from b h.reservations ≡ ok end) where
      pub end_after : h.reservations ≤ end
      unfolding scan_from
      end_after = step _ _ isEnd λ rs _ e. rw (← ok_same e) (omega arith)

      pub no_root : {r : Refusal} → counted (read.node_load b (block (names_of b h)) (ours.depth_limit b) h.structure) ≡ refused r → survey_of b ≡ refused r
      unfolding survey_of
      no_root e = then_ok _ _ isHeader (then_ok _ _ isEnd (then_refused _ _ e))

      pub whole : (c : Passed) → counted (read.node_load b (block (names_of b h)) (ours.depth_limit b) h.structure) ≡ ok c
          → survey_of b ≡ ok (record {
            structure = h.structure;
            strings = names_of b h;
            reservations = h.reservations;
            tree = record { version = version; boot_cpuid_phys = h.boot; reserved = (end - h.reservations) / 16; nodes = c.nodes; props = c.props };
          })
      unfolding survey_of
      whole c e = then_ok _ _ isHeader (then_ok _ _ isEnd (then_ok _ _ e refl))

-- ---- a header that was read: what the passes ask for

module _ {b : List ℕ} {h : Header} (all : (i : ℕ) → slice_index b i < 256) (isHeader : header_of b ≡ ok h) where
  -- the blob and the header's words are small
  found_fits : Fits b h
  unfolding AreBytes
  found_fits = header_fits b h all isHeader

  -- the scan may start at the header's list
  pub scan_ready : ScanReady b h.reservations
  scan_ready = record { blob = found_fits.blob; start = found_fits.reservations }

  -- the nodes may be checked with the strings from the header's word on
  pub names_small : Small b (record { start = h.strings; end = length b })
  names_small = record { blob = found_fits.blob; start = found_fits.strings; end = omega arith }
