-- What the survey is to find: crate format's reader, by positions and counts.
use Rattle.std.specs.Prelude.{ℕ, ◌-◌, ◌/◌, List}
use Rattle.format.specs.Answer.{Outcome, ok, ◌>>=◌}
use Rattle.format.specs.Format.{version}
use Rattle.format.specs.Rules.{ours}
use Rattle.format.specs.Read as read
use Rattle.survey.specs.Nodes.{block, counted}
use Rattle.survey.specs.Reserve.{scan_from}
use Rattle.survey.specs.declared.Block.{Block}
use Rattle.survey.specs.declared.Plan.{Plan}
use Rattle.survey.specs.declared.header.Header.{Header}

unfoldable pub header_of : List ℕ → Outcome Header
header_of b = read.header b >>= λ h. ok (record { structure = h.structure; strings = h.strings; reservations = h.reservations; boot = h.boot })

unfoldable pub names_of : List ℕ → Header → Block
names_of b h = record { start = h.strings; end = ours.strings_end b }

unfoldable pub survey_of : List ℕ → Outcome Plan
survey_of b =
    header_of b >>= λ h.
    scan_from b h.reservations >>= λ end.
    counted (read.node_load b (block (names_of b h)) (ours.depth_limit b) h.structure) >>= λ c.
    ok (record {
      structure = h.structure;
      strings = names_of b h;
      reservations = h.reservations;
      tree = record {
        version = version;
        boot_cpuid_phys = h.boot;
        reserved = (end - h.reservations) / 16;
        nodes = c.nodes;
        props = c.props;
      };
    })
