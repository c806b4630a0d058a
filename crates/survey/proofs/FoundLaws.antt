-- What the survey finds, in crate format's words: a load of the blob reads the same, and where it found a tree that tree stands there.
-- Assumes nothing.
use mathlib.Core.Path.{◌≡◌, refl, sym, ap, ◌∙◌, subst}
use Prim.Native.Nat.{ℕ, ◌+◌, ◌-◌, ◌*◌, ◌/◌}
use native.Mathlib.Omega.{arith}
use mathlib.Core.List.{List, [], ◌∷◌}
use lib.ListN.{length}
use Rattle.format.specs.Answer.{Refusal, Outcome, ok, refused, ◌>>=◌}
use Rattle.format.specs.Bytes.{word_at}
use Rattle.format.specs.Format.{version, structure_at, strings_at}
use Rattle.format.specs.Tree.{Node, Reservation, Tree, node_count, property_count}
use Rattle.format.specs.Rules.{ours}
use Rattle.format.specs.Read as read
use Rattle.format.specs.Load.{tree_numbers}
use Rattle.format.proofs.Answer.{ok_same, refused_same, ok_then, step, then_ok, then_refused, then_then, never}
use Rattle.format.proofs.Read.{read_there, read_inside}
use Rattle.survey.specs.Nodes.{block, counted}
use Rattle.survey.specs.Reserve.{listed, scan_from}
use Rattle.survey.specs.Survey.{header_of, names_of, survey_of}
use Rattle.survey.specs.declared.DeviceTree.{DeviceTree}
use Rattle.survey.specs.declared.Plan.{Plan}
use Rattle.survey.specs.declared.header.Header.{Header}

-- ---- the survey and the load read the same

record Full : Type 0 where
  header : read.Header
  reserved : List Reservation
  root : read.Read Node

-- the header as the code has it
own : read.Header → Header
own h = record { structure = h.structure; strings = h.strings; reservations = h.reservations; boot = h.boot }

full : List ℕ → Outcome Full
full b =
    read.header b >>= λ h.
    listed b h.reservations >>= λ rs.
    read.node_load b (record { start = h.strings; end = ours.strings_end b }) (ours.depth_limit b) h.structure >>= λ root.
    ok (record { header = h; reserved = rs; root = root })

tree_of : Full → Tree
tree_of f = record { boot = f.header.boot; reserved = f.reserved; root = f.root.value }

plan_of : List ℕ → Full → Plan
plan_of b f = record {
  structure = f.header.structure;
  strings = names_of b (own f.header);
  reservations = f.header.reservations;
  tree = record {
    version = version;
    boot_cpuid_phys = f.header.boot;
    reserved = (f.header.reservations + 16 * length f.reserved - f.header.reservations) / 16;
    nodes = node_count f.root.value;
    props = property_count f.root.value;
  };
}

load_full : (b : List ℕ) → read.load ours b ≡ (full b >>= λ f. ok (tree_of f))
unfolding read.load read.load_within read.body full tree_of listed
load_full b = simp (then_then, ok_then)

survey_full : (b : List ℕ) → survey_of b ≡ (full b >>= λ f. ok (plan_of b f))
unfolding survey_of header_of scan_from counted full plan_of own block names_of
survey_full b = simp (then_then, ok_then)

-- a refusal of what was made of an outcome is the outcome's own
made_refused : {A B : Type 0} (m : Outcome A) (f : A → B) {r : Refusal} → (m >>= λ a. ok (f a)) ≡ refused r → m ≡ refused r
unfolding ◌>>=◌
made_refused (ok a) f e = absurd (never (sym e))
made_refused (refused s) f {r} e = ap refused (refused_same e)

pub survey_refused : (b : List ℕ) (r : Refusal) → survey_of b ≡ refused r → read.load ours b ≡ refused r
survey_refused b r e = load_full b ∙ then_refused _ _ (made_refused (full b) (plan_of b) (sym (survey_full b) ∙ e))

-- ---- what was found

-- what a tree's answer carries
unfoldable pub carried : DeviceTree → List ℕ
carried t = t.version ∷ t.boot_cpuid_phys ∷ t.reserved ∷ t.nodes ∷ t.props ∷ []

-- the tree that was found, and how the survey tells it
pub record Finds (b : List ℕ) (v : Plan) : Type 0 where
  pub tree : Tree
  pub loads : read.load ours b ≡ ok tree
  pub says : carried v.tree ≡ tree_numbers tree
  pub listed_at : listed b v.reservations ≡ ok tree.reserved
  pub structure : v.structure ≡ word_at b structure_at
  pub start : v.strings.start ≡ word_at b strings_at
  pub end : v.strings.end ≡ ours.strings_end b
  pub reserved : v.tree.reserved ≡ length tree.reserved
  pub nodes : v.tree.nodes ≡ node_count tree.root
  pub props : v.tree.props ≡ property_count tree.root

word_of : (b : List ℕ) (p : ℕ) {n : ℕ} → read.read_be_u32 b p ≡ ok n → n ≡ word_at b p
word_of b p e = ok_same (sym e ∙ read_there b 4 p (read_inside b 4 p e))

record Offsets (b : List ℕ) (h : read.Header) : Type 0 where
  structure : h.structure ≡ word_at b structure_at
  strings : h.strings ≡ word_at b strings_at

offsets : (b : List ℕ) (h : read.Header) → read.header b ≡ ok h → Offsets b h
unfolding read.header
offsets b h e =
    step _ _ e λ _ _ e.
    step _ _ e λ _ _ e.
    step _ _ e λ _ _ e.
    step _ _ e λ _ _ e.
    step _ _ e λ _ _ e.
    step _ _ e λ _ _ e.
    step _ _ e λ structure isStructure e.
    step _ _ e λ strings isStrings e.
    step _ _ e λ _ _ e.
    step _ _ e λ _ _ e.
    subst (Offsets b) (ok_same e) (record { structure = word_of b structure_at isStructure; strings = word_of b strings_at isStrings })

full_finds : (b : List ℕ) (f : Full) → full b ≡ ok f → Finds b (plan_of b f)
unfolding full plan_of tree_of own names_of carried tree_numbers
full_finds b f e =
    step _ _ e λ h isHeader e₁.
    step _ _ e₁ λ rs isListed e₂.
    step _ _ e₂ λ root isRoot e₃.
    let same : record { header = h; reserved = rs; root = root } ≡ f = ok_same e₃ in
    let at = offsets b f.header (isHeader ∙ ap ok (ap (λ (g : Full). g.header) same)) in
    let counted : (f.header.reservations + 16 * length f.reserved - f.header.reservations) / 16 ≡ length f.reserved = omega arith in
    record {
      tree = tree_of f;
      loads = load_full b ∙ then_ok _ _ e refl;
      says = rw counted;
      listed_at = subst (λ (g : Full). listed b g.header.reservations ≡ ok g.reserved) same isListed;
      structure = at.structure;
      start = at.strings;
      end = refl;
      reserved = counted;
      nodes = refl;
      props = refl;
    }

pub survey_finds : (b : List ℕ) (v : Plan) → survey_of b ≡ ok v → Finds b v
survey_finds b v e = step _ _ (sym (survey_full b) ∙ e) λ f h e. subst (Finds b) (ok_same e) (full_finds b f h)
