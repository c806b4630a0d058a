-- The checking pass by positions and counts, a step at a time: what is refused where, and what is left after each turn of a loop.
-- Tokens go by their numbers: 1 opens a node, 2 closes it, 3 opens a property.
-- Assumes nothing but, where it is named, that the blob's elements are bytes.
use mathlib.Core.Path.{◌≡◌, refl, sym, ap, ◌∙◌, subst}
use mathlib.Core.Logic.{◌≢◌}
use Prim.Native.Nat.{ℕ, zero, suc, ◌+◌, ◌-◌, ◌*◌, ◌^◌, ◌≤◌, ◌<◌}
use native.Mathlib.Omega.{arith}
use native.Mathlib.Nat.{add-zero}
use mathlib.Core.List.{List}
use lib.Dec.{eqb}
use lib.ListN.{length, take, drop}
use lib.Seq.{length-take-le}
use borrow.Author.Tests.{eq-eqb, ne_eqb}
use Rattle.format.specs.Bytes.{align, part, AreBytes}
use Rattle.format.specs.Format.{BEGIN_NODE, END_NODE, PROP}
use Rattle.format.specs.Answer.{Refusal, parse_error, too_deep, Outcome, ok, refused, ◌>>=◌, check, or_else}
use Rattle.format.specs.Tree.{Property, Nodes, node_count, node_counts, property_count, property_counts}
use Rattle.format.specs.Read.{aligned, read_be_u32, read_bstring0, subslice, utf8_check, Read, property, properties, nodes, node_load}
use Rattle.format.proofs.Answer.{never, ok_same, step, ok_then, then_ok, then_refused, then_then, then_same, check_ok, check_no}
use Rattle.format.proofs.Bytes.{align_up}
use Rattle.format.proofs.Complete.{node_up}
use Rattle.format.proofs.Sound.{node_sound}
use Rattle.format.proofs.Sizes.{node_span, node_inside}
use Rattle.format.proofs.Tools.{if_yes, if_no, if_went}
use Rattle.format.proofs.Read.{part_read}
use Rattle.format.proofs.Loops.{property_moves_lem, properties_turn, nodes_turn}
use Rattle.format.proofs.Turns.{next_of}
use Rattle.reader.specs.declared.Span.{Span}
use Rattle.reader.proofs.Parts.{Told, string_has, string_ends}
use Rattle.reader.proofs.Rounding.{aligned_total}
use Rattle.survey.specs.declared.Block.{Block}
use Rattle.survey.specs.declared.nodes.Props.{Props}
use Rattle.survey.specs.declared.nodes.Head.{Head}
use Rattle.survey.specs.declared.nodes.Passed.{Passed}
use Rattle.survey.specs.Nodes.{block, Small, counted_props, head_of, end_of, counted}

-- the n bytes from p on, as `&b[p..p + n]` has them
pub cut : (b : List ℕ) (p n : ℕ) → take (p + n - p) (drop p b) ≡ part b p n
unfolding part
cut b p n = let e : p + n - p ≡ n = omega arith in rw e

-- a string by the place that the reader tells
told_cut : (b : List ℕ) (p : ℕ) {s : Span} (t : Told p (read_bstring0 b p) s) → take (p + s.len - p) (drop p b) ≡ t.bytes
told_cut b p {s} t = cut b p s.len ∙ ap (part b p) t.size ∙ (string_has b p t.bytes t.read).same

pub told_inside : (b : List ℕ) (p : ℕ) {s : Span} → Told p (read_bstring0 b p) s → p + s.len < length b
told_inside b p t = omega (arith, t.size, string_ends b p t.bytes t.read)

-- a name in the strings block ends inside it, so the sum of its place and its length fits
pub name_ends : {b : List ℕ} {strings : Block} (p : ℕ) {s : Span} → Small b strings → Told p (read_bstring0 (take strings.end b) p) s
    → (p + s.len < 2 ^ 64) × (p + s.len ≤ length (take strings.end b))
name_ends {b} {strings} p small t =
    let inside = told_inside (take strings.end b) p t in
    let long = length-take-le strings.end b small.end in
    (omega (arith, inside, long, small.end, small.blob), omega (arith, inside))

sum_suc : (n m : ℕ) → n + suc m ≡ n + 1 + m
sum_suc n m = omega arith

sum_sum : (n a b : ℕ) → n + (a + b) ≡ n + a + b
sum_sum n a b = omega arith

one_more : (n : ℕ) → suc n ≡ 1 + n
one_more n = omega arith

none_yet : (m : Outcome Props) → m ≡ (m >>= λ c. ok (record { next = c.next; props = 0 + c.props }))
unfolding ◌>>=◌
none_yet (ok c) = let e : 0 + c.props ≡ c.props = omega arith in rw e
none_yet (refused r) = refl

-- a head at p: its name ends inside the blob, and it takes more bytes than it has properties
record HeadSpan (b : List ℕ) (p : ℕ) (h : Head) : Type 0 where
  name : p + 4 + h.len < length b
  rows : 1 + h.props ≤ h.next

-- a node at p: it ends inside the blob, and takes 9 bytes for each node and property at least
pub record NodeSpan (b : List ℕ) (p : ℕ) (c : Passed) : Type 0 where
  pub rows : p + 9 * (c.nodes + c.props) ≤ c.next
  pub moves : p < c.next
  pub inside : c.next ≤ length b

-- what is left of a node once n nodes and x properties are counted, up to p
unfoldable pub children_from : List ℕ → Block → ℕ → List ℕ → ℕ → ℕ → ℕ → Outcome Passed
children_from b strings d name p n x =
    nodes b (λ q. node_load b (block strings) d q) (length b) p >>= λ ns.
    end_of b name ns.next >>= λ next.
    ok (record { next = next; nodes = n + node_counts ns.value; props = x + property_counts ns.value })

-- A node at p, d levels deep at most, whose head and whose children before q are checked: with the n nodes and x properties counted,
-- what is left gives what the whole node gives.
pub record Left (b : List ℕ) (strings : Block) (d p len q n x : ℕ) : Type 0 where
  pub same : counted (node_load b (block strings) d p) ≡ children_from b strings (d - 1) (part b (p + 4) len) q n x
  pub rows : n + x ≤ q
  pub name : p + 4 + len < length b

-- ---- a node's end

module _ (b : List ℕ) (start len p : ℕ) where
  pub end_past : {r : Refusal} → read_be_u32 b p ≡ refused r → end_of b (part b start len) p ≡ refused r
  unfolding end_of
  end_past e = then_refused _ _ e

  module _ {token : ℕ} (is_token : read_be_u32 b p ≡ ok token) where
    pub end_other : token ≢ 2 → end_of b (part b start len) p ≡ refused (parse_error p)
    unfolding end_of END_NODE
    end_other k = then_ok _ _ is_token (then_refused _ _ (check_no _ (ne_eqb token 2 k)))

    module _ (closes : token ≡ 2) where
      closed : end_of b (part b start len) p ≡ (utf8_check (take (start + len - start) (drop start b)) >>= λ _. ok (p + 4))
      unfolding end_of END_NODE
      closed = then_ok _ _ is_token (then_ok _ _ (check_ok _ (eq-eqb token 2 closes)) (rw (cut b start len)))

      pub end_bad_name : {r : Refusal} → utf8_check (take (start + len - start) (drop start b)) ≡ refused r → end_of b (part b start len) p ≡ refused r
      end_bad_name e = closed ∙ then_refused _ _ e

      pub end_good : utf8_check (take (start + len - start) (drop start b)) ≡ ok tt → end_of b (part b start len) p ≡ ok (p + 4)
      end_good e = closed ∙ then_ok _ _ e refl

module _ (b : List ℕ) (strings : Block) where
  -- what follows the property at p; the properties from p on; the node at p, d levels deep at most
  abbrev prop_next : ℕ → Outcome ℕ
  prop_next p = next_of (property b (block strings) p)

  abbrev pub all_props : ℕ → Outcome Props
  all_props p = counted_props (properties b (block strings) (length b) p)

  abbrev node_counted : ℕ → ℕ → Outcome Passed
  node_counted d p = counted (node_load b (block strings) d p)

  -- ---- a property

  module _ (p : ℕ) where
    prop_steps : prop_next p ≡ (read_be_u32 b (p + 4) >>= λ size.
        read_be_u32 b (p + 8) >>= λ offset.
        subslice b (p + 12) (p + 12 + size) >>= λ value.
        read_bstring0 (take strings.end b) (strings.start + offset) >>= λ name.
        utf8_check name >>= λ _.
        ok (align (p + 12 + size) 4))
    unfolding next_of property block utf8_check
    prop_steps = simp (then_then, ok_then)

    pub prop_no_size : {r : Refusal} → read_be_u32 b (p + 4) ≡ refused r → prop_next p ≡ refused r
    prop_no_size e = prop_steps ∙ then_refused _ _ e

    module _ {size : ℕ} (isSize : read_be_u32 b (p + 4) ≡ ok size) where
      pub prop_no_offset : {r : Refusal} → read_be_u32 b (p + 8) ≡ refused r → prop_next p ≡ refused r
      prop_no_offset e = prop_steps ∙ then_ok _ _ isSize (then_refused _ _ e)

      module _ {offset : ℕ} (isOffset : read_be_u32 b (p + 8) ≡ ok offset) where
        pub prop_no_value : {r : Refusal} → subslice b (p + 12) (p + 12 + size) ≡ refused r → prop_next p ≡ refused r
        prop_no_value e = prop_steps ∙ then_ok _ _ isSize (then_ok _ _ isOffset (then_refused _ _ e))

        module _ {at : Span} (value : Told (p + 12) (subslice b (p + 12) (p + 12 + size)) at) where
          valued : prop_next p ≡ (read_bstring0 (take strings.end b) (strings.start + offset) >>= λ name.
              utf8_check name >>= λ _.
              ok (align (p + 12 + size) 4))
          valued = prop_steps ∙ then_ok _ _ isSize (then_ok _ _ isOffset (then_ok _ _ value.read refl))

          pub prop_no_name : {r : Refusal} → read_bstring0 (take strings.end b) (strings.start + offset) ≡ refused r → prop_next p ≡ refused r
          prop_no_name e = valued ∙ then_refused _ _ e

          module _ {s : Span} (name : Told (strings.start + offset) (read_bstring0 (take strings.end b) (strings.start + offset)) s) where
            -- the name's bytes, as the code cuts them out
            abbrev name_bytes : List ℕ
            name_bytes = take (strings.start + offset + s.len - (strings.start + offset)) (drop (strings.start + offset) (take strings.end b))

            judged : prop_next p ≡ (utf8_check name_bytes >>= λ _. ok (align (p + 12 + size) 4))
            judged = valued ∙ then_ok _ _ name.read (rw (told_cut (take strings.end b) (strings.start + offset) name))

            pub prop_bad_name : {r : Refusal} → utf8_check name_bytes ≡ refused r → prop_next p ≡ refused r
            prop_bad_name e = judged ∙ then_refused _ _ e

            pub prop_good : {next : ℕ} → length b < 2 ^ 32 → utf8_check name_bytes ≡ ok tt → next ≡ or_else (p + 12 + size) (aligned (p + 12 + size) 4) → prop_next p ≡ ok next
            prop_good small e is_next =
                let inside = (part_read b (p + 12) size value.read).ends in
                judged ∙ then_ok _ _ e (ap ok (sym (is_next ∙ aligned_total (p + 12 + size) (omega arith))))

  -- ---- the loop over properties

  -- what is left of them from p on, once n are counted
  unfoldable pub props_from : ℕ → ℕ → Outcome Props
  props_from p n = all_props p >>= λ c. ok (record { next = c.next; props = n + c.props })

  pub from_start : (p : ℕ) → all_props p ≡ props_from p 0
  unfolding props_from
  from_start p = none_yet (all_props p)

  module _ (p n : ℕ) where
    pub from_past : {r : Refusal} → read_be_u32 b p ≡ refused r → props_from p n ≡ refused r
    unfolding props_from counted_props
    from_past e = then_refused _ _ (then_refused _ _ (properties_turn b (block strings) p ∙ then_refused _ _ e))

    module _ {token : ℕ} (is_token : read_be_u32 b p ≡ ok token) where
      pub from_stop : token ≢ 3 → props_from p n ≡ ok (record { next = p; props = n })
      unfolding props_from counted_props PROP
      from_stop k = then_ok _ _ (then_ok _ _ (properties_turn b (block strings) p ∙ then_ok _ _ is_token (if_no _ _ (ne_eqb token 3 k))) refl) (rw (add-zero n))

      module _ (opens : token ≡ 3) where
        more : props_from p n ≡ (prop_next p >>= λ q. props_from q (n + 1))
        unfolding props_from counted_props next_of PROP
        more =
            ap (λ m. (m >>= λ r. ok (record { next = r.next; props = length r.value })) >>= λ (c : Props). ok (record { next = c.next; props = n + c.props }))
            (properties_turn b (block strings) p ∙ then_ok _ _ is_token (if_yes _ _ (eq-eqb token 3 opens)))
            ∙ simp (then_then, ok_then, sum_suc)

        pub from_bad : {r : Refusal} → prop_next p ≡ refused r → props_from p n ≡ refused r
        from_bad e = more ∙ then_refused _ _ e

        pub from_good : {q : ℕ} → prop_next p ≡ ok q → props_from p n ≡ props_from q (n + 1)
        from_good e = more ∙ then_ok _ _ e refl

  -- ---- a node's head

  module _ (p : ℕ) where
    pub head_past : {r : Refusal} → read_be_u32 b p ≡ refused r → head_of b (block strings) p ≡ refused r
    unfolding head_of
    head_past e = then_refused _ _ e

    module _ {token : ℕ} (is_token : read_be_u32 b p ≡ ok token) where
      pub head_other : token ≢ 1 → head_of b (block strings) p ≡ refused (parse_error p)
      unfolding head_of BEGIN_NODE
      head_other k = then_ok _ _ is_token (then_refused _ _ (check_no _ (ne_eqb token 1 k)))

      module _ (opens : token ≡ 1) where
        opened : head_of b (block strings) p ≡ (read_bstring0 b (p + 4) >>= λ name.
            all_props (align (p + 4 + length name + 1) 4) >>= λ own.
            ok (record { len = length name; next = own.next; props = own.props }))
        unfolding head_of BEGIN_NODE
        opened = then_ok _ _ is_token (then_ok _ _ (check_ok _ (eq-eqb token 1 opens)) refl)

        pub head_no_name : {r : Refusal} → read_bstring0 b (p + 4) ≡ refused r → head_of b (block strings) p ≡ refused r
        head_no_name e = opened ∙ then_refused _ _ e

        module _ {s : Span} (small : length b < 2 ^ 32) (name : Told (p + 4) (read_bstring0 b (p + 4)) s)
            {q : ℕ} (is_next : q ≡ or_else (p + 4 + s.len + 1) (aligned (p + 4 + s.len + 1) 4)) where
          named : head_of b (block strings) p ≡ (all_props q >>= λ own. ok (record { len = s.len; next = own.next; props = own.props }))
          named =
              let inside = told_inside b (p + 4) name in
              opened ∙ then_ok _ _ name.read (rw (is_next ∙ aligned_total (p + 4 + s.len + 1) (omega arith), name.size))

          pub head_bad : {r : Refusal} → all_props q ≡ refused r → head_of b (block strings) p ≡ refused r
          head_bad e = named ∙ then_refused _ _ e

          pub head_good : {own : Props} → all_props q ≡ ok own → head_of b (block strings) p ≡ ok (record { len = s.len; next = own.next; props = own.props })
          head_good e = named ∙ then_ok _ _ e refl

  -- ---- sizes

  properties_rows : (fuel p : ℕ) (xs : Read (List Property)) → properties b (block strings) fuel p ≡ ok xs → p + length xs.value ≤ xs.next
  unfolding properties
  properties_rows zero p xs e = absurd (never e)
  properties_rows (suc fuel) p xs e =
      step _ _ e λ token _ e.
      if_went _ _ _ e
      (λ t e.
      step _ _ e λ x hx e.
      step _ _ e λ rest hrest e.
      rw (← ok_same e) (omega (arith, property_moves_lem b (block strings) p x hx, properties_rows fuel x.next rest hrest)))
      (λ t e. rw (← ok_same e) (omega arith))

  head_spans : (p : ℕ) {h : Head} → head_of b (block strings) p ≡ ok h → HeadSpan b p h
  unfolding head_of counted_props
  head_spans p e =
      step _ _ e λ token _ e.
      step _ _ e λ _ _ e.
      step _ _ e λ name is_name e.
      step _ _ e λ own isOwn e.
      step _ _ isOwn λ r isRead k.
      let rows = properties_rows (length b) (align (p + 4 + length name + 1) 4) r isRead in
      let is_next : r.next ≡ own.next = ap (λ (o : Props). o.next) (ok_same k) in
      let is_row : length r.value ≡ own.props = ap (λ (o : Props). o.props) (ok_same k) in
      subst (HeadSpan b p) (ok_same e) (record {
        name = string_ends b (p + 4) name is_name;
        rows = omega (arith, align_up (p + 4 + length name + 1));
      })

  pub node_spans : AreBytes b → (d p : ℕ) {c : Passed} → node_counted d p ≡ ok c → NodeSpan b p c
  unfolding counted
  node_spans all d p e =
      step _ _ e λ r isRead e.
      let sound = node_sound b all (block strings) d p r isRead in
      let span = node_span r.value p in
      let within = node_inside b (block strings) p r.value sound.at in
      let up = node_up r.value p in
      subst (NodeSpan b p) (ok_same e) (record {
        rows = omega (arith, sound.next);
        moves = omega (arith, sound.next);
        inside = omega (arith, sound.next);
      })

  -- ---- the loop over children

  module _ (d : ℕ) (name : List ℕ) (q n x : ℕ) where
    children_past : {r : Refusal} → read_be_u32 b q ≡ refused r → children_from b strings d name q n x ≡ refused r
    unfolding children_from
    children_past e = then_refused _ _ (nodes_turn b (block strings) d q ∙ then_refused _ _ e)

    module _ {token : ℕ} (is_token : read_be_u32 b q ≡ ok token) where
      children_more : token ≡ 1
          → children_from b strings d name q n x ≡ (node_counted d q >>= λ c. children_from b strings d name c.next (n + c.nodes) (x + c.props))
      unfolding children_from counted BEGIN_NODE node_counts property_counts
      children_more k =
          ap (λ m. m >>= λ (ns : Read Nodes).
          end_of b name ns.next >>= λ next.
          ok (record { next = next; nodes = n + node_counts ns.value; props = x + property_counts ns.value }))
          (nodes_turn b (block strings) d q ∙ then_ok _ _ is_token (if_yes _ _ (eq-eqb token 1 k)))
          ∙ simp (then_then, ok_then, sum_sum)

      children_done : token ≢ 1 → children_from b strings d name q n x ≡ (end_of b name q >>= λ next. ok (record { next = next; nodes = n; props = x }))
      unfolding children_from BEGIN_NODE node_counts property_counts
      children_done k =
          then_ok _ _ (nodes_turn b (block strings) d q ∙ then_ok _ _ is_token (if_no _ _ (ne_eqb token 1 k)))
          (rw (add-zero n, add-zero x))

  -- ---- a node

  pub node_deep : (d p : ℕ) → d ≡ 0 → node_counted d p ≡ refused (too_deep p)
  unfolding node_load counted ◌>>=◌
  node_deep d p e = rw e

  node_steps : (d p : ℕ) → node_counted (suc d) p ≡ (read_be_u32 b p >>= λ token.
      check (eqb token BEGIN_NODE) (parse_error p) >>= λ _.
      read_bstring0 b (p + 4) >>= λ name.
      properties b (block strings) (length b) (align (p + 4 + length name + 1) 4) >>= λ r.
      children_from b strings d name r.next 1 (length r.value))
  unfolding node_load counted children_from end_of utf8_check node_count property_count
  node_steps d p = simp (then_then, ok_then, one_more)

  head_then : (d p : ℕ) → node_counted (suc d) p ≡ (head_of b (block strings) p >>= λ h.
      children_from b strings d (part b (p + 4) h.len) h.next 1 h.props)
  unfolding head_of counted_props
  head_then d p =
      node_steps d p
      ∙ then_same _ _ _ (λ token _. then_same _ _ _ λ _ _. then_same _ _ _ λ name h.
      ap (λ nm. properties b (block strings) (length b) (align (p + 4 + length name + 1) 4) >>= λ r. children_from b strings d nm r.next 1 (length r.value)) (sym (string_has b (p + 4) name h).same))
      ∙ sym (simp (then_then, ok_then))

  module _ (d p : ℕ) (deep : d ≢ 0) where
    headed : node_counted d p ≡ (head_of b (block strings) p >>= λ h.
        children_from b strings (d - 1) (part b (p + 4) h.len) h.next 1 h.props)
    headed = go d deep
      where
        go : (d : ℕ) → d ≢ 0 → node_counted d p ≡ (head_of b (block strings) p >>= λ h.
            children_from b strings (d - 1) (part b (p + 4) h.len) h.next 1 h.props)
        go zero n = absurd (n refl)
        go (suc d) n = let e : suc d - 1 ≡ d = omega arith in rw e (head_then d p)

    pub node_no_head : {r : Refusal} → head_of b (block strings) p ≡ refused r → node_counted d p ≡ refused r
    node_no_head e = headed ∙ then_refused _ _ e

    pub node_head : {h : Head} → head_of b (block strings) p ≡ ok h → Left b strings d p h.len h.next 1 h.props
    node_head {h} e =
        let span = head_spans p e in
        record { same = headed ∙ then_ok _ _ e refl; rows = span.rows; name = span.name }

  -- ---- a node whose head and whose children before q are checked

  module _ {d p len q n x : ℕ} (left : Left b strings d p len q n x) where
    pub left_past : {r : Refusal} → read_be_u32 b q ≡ refused r → node_counted d p ≡ refused r
    left_past e = left.same ∙ children_past _ _ _ _ _ e

    module _ {token : ℕ} (is_token : read_be_u32 b q ≡ ok token) where
      module _ (opens : token ≡ 1) where
        pub left_bad_child : {r : Refusal} → node_counted (d - 1) q ≡ refused r → node_counted d p ≡ refused r
        left_bad_child e = left.same ∙ children_more _ _ _ _ _ is_token opens ∙ then_refused _ _ e

        pub left_child : AreBytes b → {c : Passed} → node_counted (d - 1) q ≡ ok c → Left b strings d p len c.next (n + c.nodes) (x + c.props)
        left_child all e = record {
          same = left.same ∙ children_more _ _ _ _ _ is_token opens ∙ then_ok _ _ e refl;
          rows = omega (arith, left.rows, (node_spans all (d - 1) q e).rows);
          name = left.name;
        }

      module _ (other : token ≢ 1) where
        done : node_counted d p ≡ (end_of b (part b (p + 4) len) q >>= λ next. ok (record { next = next; nodes = n; props = x }))
        done = left.same ∙ children_done _ _ _ _ _ is_token other

        pub left_bad_end : {r : Refusal} → end_of b (part b (p + 4) len) q ≡ refused r → node_counted d p ≡ refused r
        left_bad_end e = done ∙ then_refused _ _ e

        pub left_good : {next : ℕ} → end_of b (part b (p + 4) len) q ≡ ok next → node_counted d p ≡ ok (record { next = next; nodes = n; props = x })
        left_good e = done ∙ then_ok _ _ e refl
