-- Looking up a path: what holds before each part of it and before each child, and the public calls by cases. Assumes nothing.
use Rattle.std.proofs.Common.{◌≡◌, ℕ, zero, suc, ◌+◌, ◌-◌, ◌<◌, ◌≤◌, Bool, true, false, ◌&&◌, ltb, leb, ◌≢◌, ◌⊎◌, List, [], ◌∷◌, length, take, drop, sym, refl, ap, ◌∙◌, ⊎_elim, arith, eqb, ltb-true, eq-eqb, ne_eqb, leb-true}
use lib.Pointwise.{pointwise}
use lib.ListN.{get_or}
use borrow.Author.Rules.{part_to_end}
use mathlib.Core.Bool.{true≢false}
use Rattle.std.proofs.Math.Bool.{and-true}
use Rattle.format.specs.Answer.{Refusal, Outcome, ok, refused, ◌>>=◌, nothing_found, not_usable}
use Rattle.format.specs.Bytes.{part}
use Rattle.format.specs.Format.{NONE, node_width}
use Rattle.format.specs.Rows.{NodeRow, at, nodes_in}
use Rattle.format.specs.Load.{capacity}
use Rattle.format.specs.Find.{head, rest, same, SLASH, after_slash}
use Rattle.format.specs.Lookup.{link_good, links_good, name_inside, name_at, across, down, reach, usable, find_from, find}
use Rattle.format.proofs.Tools.{both, tested, if_yes, if_no}
use Rattle.format.proofs.Answer.{never, ok_same, then_ok, then_refused, check_ok, check_no}
use Rattle.format.proofs.Lookup.{across_other, across_here, across_below, across_none, across_bad}
use Rattle.format.proofs.Reached.{There, follows, led, links_of, links_good_lem, Enough, next_enough, turns_enough}
use Rattle.lookup.specs.Places.{IsNode, child_from}
use Rattle.lookup.specs.declared.judge.NodeCells.{NodeCells}
use Rattle.lookup.proofs.RowLaws.{ahead, fewer_ahead, leads}

-- ---- one turn of the search for a child

module _ (b : List ℕ) (R : List NodeRow) where
  child_zero : (r : ℕ) (first : List ℕ) → refused not_usable ≡ child_from b R zero r first
  unfolding child_from
  child_zero r first = refl

  child_none : (turns : ℕ) (first : List ℕ) → child_from b R (suc turns) NONE first ≡ refused nothing_found
  unfolding child_from
  child_none turns first = if_yes _ _ (eq-eqb NONE NONE refl)

  module _ (turns r : ℕ) (first : List ℕ) (some : r ≢ NONE) where
    child_bad : (links_good R r && name_inside b R r) ≡ false → child_from b R (suc turns) r first ≡ refused not_usable
    unfolding child_from
    child_bad e = if_no _ _ (ne_eqb r NONE some) ∙ if_no _ _ e

    module _ (good : (links_good R r && name_inside b R r) ≡ true) where
      child_here : same (name_at b R r) first ≡ true → child_from b R (suc turns) r first ≡ ok r
      unfolding child_from
      child_here e = if_no _ _ (ne_eqb r NONE some) ∙ if_yes _ _ good ∙ if_yes _ _ e

      child_next : same (name_at b R r) first ≡ false → child_from b R (suc turns) r first ≡ child_from b R turns (at R r).next_sibling first
      unfolding child_from
      child_next e = if_no _ _ (ne_eqb r NONE some) ∙ if_yes _ _ good ∙ if_no _ _ e

  -- ---- `across` is the search for a child, and then the way down from it

  abbrev Splits : ℕ → ℕ → Type 0
  Splits turns r = (first later : List ℕ) → across b R turns r first later ≡ (child_from b R turns r first >>= λ c. down b R c later)

  here_down : (turns r : ℕ) → There (length R) r → Enough b R (suc turns) r → (good : (links_good R r && name_inside b R r) ≡ true)
      → (first later : List ℕ) → same (name_at b R r) first ≡ true → across b R (suc turns) r first later ≡ down b R r later
  unfolding down
  here_down turns r there enough good first [] e = across_here b R turns r first there.some good e
  here_down turns r there enough good first (c ∷ s) e =
      let link = (links_good_lem b R r good).0 in
      let l = (at R r).first_child in
      across_below b R turns r first there.some good c s e
      ∙ turns_enough b R turns (length R) l (head (c ∷ s)) (rest (c ∷ s)) (led b R r l link) (next_enough b R turns r l there enough link)
      (omega (arith, there.inside), λ other. ⊎_elim (λ same. absurd (other same)) (λ k. omega (arith, k.above)) (follows b R r l link))

  splits_turn : (turns r : ℕ) → There (length R) r → Enough b R (suc turns) r → (Enough b R turns (at R r).next_sibling → ((at R r).next_sibling ≡ NONE) ⊎ There (length R) (at R r).next_sibling → Splits turns (at R r).next_sibling)
      → Splits (suc turns) r
  splits_turn turns r there enough ih first later =
      tested (links_good R r && name_inside b R r)
      (λ good. tested (same (name_at b R r) first)
      (λ e. here_down turns r there enough good first later e ∙ sym (then_ok _ _ (child_here turns r first there.some good e) refl))
      (λ e. let link = (links_good_lem b R r good).1 in
      across_other b R turns r first there.some good later e
      ∙ ih (next_enough b R turns r (at R r).next_sibling there enough link) (led b R r (at R r).next_sibling link) first later
      ∙ ap (λ m. m >>= λ c. down b R c later) (sym (child_next turns r first there.some good e))))
      (λ bad. across_bad b R turns r first later there.some bad ∙ sym (then_refused _ _ (child_bad turns r first there.some bad)))

  splits : (turns r : ℕ) → (r ≡ NONE) ⊎ There (length R) r → Enough b R turns r → Splits turns r
  splits zero r at-r enough first later = absurd (omega (arith, enough.0))
  splits (suc turns) r at-r enough first later =
      ⊎_elim
      (λ e. rw e (across_none b R turns first later ∙ sym (then_refused _ _ (child_none turns first))))
      (λ there. splits_turn turns r there enough (λ next at_next. splits turns (at R r).next_sibling at_next next) first later)
      at-r

  -- a child that is found is a row that was judged
  found_good : (turns r : ℕ) (first : List ℕ) (c : ℕ) → (r ≡ NONE) ⊎ There (length R) r → child_from b R turns r first ≡ ok c → (c < length R) × (links_good R c ≡ true)
  found_good zero r first c at-r e = absurd (never (child_zero r first ∙ e))
  found_good (suc turns) r first c at-r e =
      ⊎_elim
      (λ none. absurd (never (sym (child_none turns first) ∙ rw none at e)))
      (λ there. tested (links_good R r && name_inside b R r)
      (λ good. tested (same (name_at b R r) first)
      (λ here. let is : r ≡ c = ok_same (sym (child_here turns r first there.some good here) ∙ e) in
      rw (← is) (there.inside, (both (links_good R r) (name_inside b R r) good).0))
      (λ other. found_good turns (at R r).next_sibling first c (led b R r (at R r).next_sibling (links_good_lem b R r good).1) (sym (child_next turns r first there.some good other) ∙ e)))
      (λ bad. absurd (never (sym (child_bad turns r first there.some bad) ∙ e))))
      at-r

-- ---- the path: before each part of it the row is judged, and what is left below it gives the whole answer

pub record Way (b : List ℕ) (R : List NodeRow) (goal : Outcome ℕ) (row link : ℕ) (path : List ℕ) : Type 0 where
  pub there : row < length R
  pub good : link_good R row link ≡ true
  pub own : link ≡ (at R row).first_child
  pub same : goal ≡ down b R row path

module _ (b : List ℕ) (R : List NodeRow) where
  pub reach_bad : (path : List ℕ) (row : ℕ) → links_good R row ≡ false → refused not_usable ≡ reach b R row path
  unfolding reach
  reach_bad path row g = sym (then_refused _ _ (check_no _ g))

  pub way_start : (path : List ℕ) (row : ℕ) (x : NodeCells) → row < length R → links_good R row ≡ true → IsNode x (at R row) → Way b R (reach b R row path) row x.child path
  unfolding reach
  way_start path row x h g is = record { there = h; good = rw is.child (links_of b R row g).0; own = is.child; same = then_ok _ _ (check_ok _ g) refl }

  down_end : (r : ℕ) (path : List ℕ) → length path ≤ 0 → ok r ≡ down b R r path
  unfolding down
  down_end r [] h = refl
  down_end r (c ∷ path) h = absurd (omega arith)

  down_step : (r : ℕ) (path : List ℕ) → 0 < length path → down b R r path ≡ across b R (length R) (at R r).first_child (head path) (rest path)
  unfolding down
  down_step r [] h = absurd (omega arith)
  down_step r (c ∷ path) h = refl

  module _ (goal : Outcome ℕ) (row link : ℕ) (path : List ℕ) (w : Way b R goal row link path) where
    pub way_end : length path ≤ 0 → ok row ≡ goal
    way_end h = down_end row path h ∙ sym w.same

    module _ (n : ℕ) (size : length R ≡ n) (h : 0 < length path) (name later : List ℕ) (e : head path ≡ name) (f : rest path ≡ later) where
      first_enough : Enough b R (length R) link
      first_enough = (
        omega (arith, w.there),
        λ other. ⊎_elim (λ same. absurd (other same)) (λ k. omega (arith, k.above)) (follows b R row link w.good),
      )

      splits_here : goal ≡ (child_from b R n link name >>= λ c. down b R c later)
      splits_here =
          w.same
          ∙ down_step row path h
          ∙ rw (← w.own, e, f, ← size) (splits b R (length R) link (led b R row link w.good) first_enough name later)

      pub way_refused : {r : Refusal} → child_from b R n link name ≡ refused r → refused r ≡ goal
      way_refused g = sym (splits_here ∙ then_refused _ _ g)

      pub way_down : {c l : ℕ} → child_from b R n link name ≡ ok c → l ≡ (at R c).first_child → Way b R goal c l later
      way_down {c} g own =
          let good = found_good b R n link name c (led b R row link w.good) g in
          record { there = good.0; good = rw own (links_of b R c good.1).0; own = own; same = splits_here ∙ then_ok _ _ g refl }

-- ---- the children

-- before a link of row `low` is followed: what it answers from here on is the goal
pub record Kids (b : List ℕ) (R : List NodeRow) (goal : Outcome ℕ) (first : List ℕ) (link : ℕ) : Type 0 where
  pub low : ℕ
  pub turns : ℕ
  pub there : low < length R
  pub enough : length R ≤ low + turns
  pub good : link_good R low link ≡ true
  pub same : goal ≡ child_from b R turns link first

-- before a row is judged
pub record Kid (b : List ℕ) (R : List NodeRow) (goal : Outcome ℕ) (first : List ℕ) (row : ℕ) : Type 0 where
  pub turns : ℕ
  pub there : row < length R
  pub some : row ≢ NONE
  pub enough : length R ≤ row + turns
  pub same : goal ≡ child_from b R (suc turns) row first

pub kids_begin : (b : List ℕ) (R : List NodeRow) (n link : ℕ) (first : List ℕ) → length R ≡ n → (low : ℕ) → low < length R → link_good R low link ≡ true
    → Kids b R (child_from b R n link first) first link
kids_begin b R n link first size low there good = record {
  low = low;
  turns = n;
  there = there;
  enough = omega arith;
  good = good;
  same = refl;
}

module _ (b : List ℕ) (R : List NodeRow) (goal : Outcome ℕ) (first : List ℕ) (link : ℕ) (x : Kids b R goal first link) where
  -- there is a turn left
  turned : goal ≡ child_from b R (suc (x.turns - 1)) link first
  turned =
      let left : x.turns ≡ suc (x.turns - 1) = omega (arith, x.there, x.enough) in
      x.same ∙ ap (λ k. child_from b R k link first) left

  pub kids_none : link ≡ NONE → goal ≡ refused nothing_found
  kids_none e = turned ∙ rw e (child_none b R (x.turns - 1) first)

  pub kids_some : link ≢ NONE → Kid b R goal first link
  kids_some some =
      let below = leads R x.low link x.good some in
      record { turns = x.turns - 1; there = below.1; some = some; enough = omega (arith, below, x.enough, x.there); same = turned }

-- a row that was judged, and its numbers
module _ (b : List ℕ) (R : List NodeRow) (row : ℕ) (node : NodeCells) (is : IsNode node (at R row)) (g : (links_good R row && name_inside b R row) ≡ true) where
  name_is : name_at b R row ≡ part b node.name node.len
  unfolding name_at
  name_is = rw (is.name, is.len)

  pub judged_inside : node.name + node.len ≤ length b
  unfolding name_inside
  judged_inside = rw (is.name, is.len) (leb-true _ _ (both (links_good R row) (name_inside b R row) g).1)

  pub judged_next : link_good R row node.next ≡ true
  judged_next = rw is.next (links_good_lem b R row g).1

  module _ (goal : Outcome ℕ) (first : List ℕ) (x : Kid b R goal first row) where
    pub kid_here : same (part b node.name node.len) first ≡ true → goal ≡ ok row
    kid_here e = x.same ∙ child_here b R x.turns row first x.some g (rw name_is e)

    pub kid_next : same (part b node.name node.len) first ≡ false → Kids b R goal first node.next
    kid_next e = record {
      low = row;
      turns = x.turns;
      there = x.there;
      enough = x.enough;
      good = judged_next;
      same = x.same ∙ child_next b R x.turns row first x.some g (rw name_is e) ∙ rw is.next;
    }

pub kid_bad : (b : List ℕ) (R : List NodeRow) (row : ℕ) → (links_good R row && name_inside b R row) ≡ false
    → (goal : Outcome ℕ) (first : List ℕ) → Kid b R goal first row → goal ≡ refused not_usable
kid_bad b R row e goal first x = x.same ∙ child_bad b R x.turns row first x.some e

-- a turn of the loop over children, by what is known in it: the link leads to a row, its numbers were read, and whether the row is good
module _ (b : List ℕ) (R : List NodeRow) (link : ℕ) (goal : Outcome ℕ) (first : List ℕ) (x : Kids b R goal first link) (some : link ≢ NONE) where
  turn_kid : Kid b R goal first link
  turn_kid = kids_some _ _ _ _ _ x some

  pub turn_below : link < length R
  turn_below = turn_kid.there

  pub turn_bad : (links_good R link && name_inside b R link) ≡ false → goal ≡ refused not_usable
  turn_bad e = kid_bad _ _ _ e _ _ turn_kid

  module _ (node : NodeCells) (is : IsNode node (at R link)) (good : (links_good R link && name_inside b R link) ≡ true) where
    pub turn_inside : node.name + node.len ≤ length b
    turn_inside = judged_inside _ _ _ _ is good

    pub turn_less : ahead (length R) node.next < ahead (length R) link
    turn_less = fewer_ahead _ _ _ turn_kid.some turn_kid.there (judged_next _ _ _ _ is good)

    pub turn_here : same (part b node.name node.len) first ≡ true → goal ≡ ok link
    turn_here e = kid_here _ _ _ _ is good _ _ turn_kid e

    pub turn_next : same (part b node.name node.len) first ≡ false → Kids b R goal first node.next
    turn_next e = kid_next _ _ _ _ is good _ _ turn_kid e

-- ---- the public calls

-- the starting row of a table that can be used
pub used : (t : List ℕ) (n row : ℕ) → usable t n row ≡ true → row < n
unfolding usable
used t n row u = ltb-true _ _ (both (leb n (capacity node_width t)) (ltb row n) u).1

module _ (b t : List ℕ) (n row : ℕ) (path : List ℕ) where
  pub from_unusable : usable t n row ≡ false → find_from b t n row path ≡ refused not_usable
  unfolding find_from
  from_unusable u = then_refused _ _ (check_no _ u)

  pub from_reach : usable t n row ≡ true → reach b (nodes_in n t) row path ≡ find_from b t n row path
  unfolding find_from
  from_reach u = sym (then_ok _ _ (check_ok _ u) refl)

-- the path begins with a slash, as the library compares it
abbrev Slashed : List ℕ → Bool → Type 0
Slashed path v = pointwise eqb (take 1 path) (0x2f ∷ []) ≡ v

slash_none : (path : List ℕ) → Slashed path false → after_slash path ≡ refused nothing_found
unfolding after_slash SLASH
slash_none [] d = refl
slash_none (c ∷ p) d = if_no _ _ (sym (and-true _) ∙ d)

slash_first : (path : List ℕ) → Slashed path true → after_slash path ≡ ok (drop 1 path)
unfolding after_slash SLASH
slash_first [] d = absurd (true≢false (sym d))
slash_first (c ∷ p) d = if_yes _ _ (sym (and-true _) ∙ d)

slashed : (path : List ℕ) → 0 < length path → get_or path 0 0 ≡ 0x2f → Slashed path true
slashed [] l d = absurd (omega (arith, l))
slashed (c ∷ p) l d = and-true _ ∙ eq-eqb c 0x2f d

module _ (b t : List ℕ) (n : ℕ) (path : List ℕ) where
  pub tree_unusable : usable t n 0 ≡ false → find b t n path ≡ refused not_usable
  unfolding find
  tree_unusable u = then_refused _ _ (check_no _ u)

  module _ (u : usable t n 0 ≡ true) where
    pub tree_none : Slashed path false → refused nothing_found ≡ find b t n path
    unfolding find
    tree_none d = sym (then_ok _ _ (check_ok _ u) (then_refused _ _ (slash_none path d)))

    -- after the slash, a path from row 0
    pub tree_below : Slashed path true → {below : List ℕ} → below ≡ drop 1 path → reach b (nodes_in n t) 0 below ≡ find b t n path
    unfolding find
    tree_below d e = rw e (sym (then_ok _ _ (check_ok _ u) (then_ok _ _ (slash_first path d) refl)))

    -- the same by its first byte
    module _ (l : 0 < length path) where
      pub tree_reach : get_or path 0 0 ≡ 0x2f → reach b (nodes_in n t) 0 (part path 1 (length path - 1)) ≡ find b t n path
      unfolding part
      tree_reach d = tree_below (slashed path l d) (part_to_end path 1)
