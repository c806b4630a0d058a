-- What is read is encoded: `load_within rules d b ≡ ok t` gives `Encodes rules b t`, and the tree is not too deep. By recursion on the reader:
-- each step that went well says which bytes stand where. Assumes that the blob's elements are bytes.
use Rattle.std.specs.Prelude.{◌≡◌, ℕ, zero, suc, ◌+◌, ◌≤◌, Bool, false, List, [], ◌∷◌, ◌++◌, length, take}
use mathlib.Core.Path.{refl, ap, ◌∙◌, subst}
use native.Mathlib.Omega.{arith}
use borrow.Author.Tests.{eqb-true}
use Rattle.format.specs.Bytes.{Has, word, AreBytes}
use Rattle.format.specs.Format.{magic, version, magic_at, total_size_at, structure_at, strings_at, reservations_at, version_at, boot_cpu_at, BEGIN_NODE, END_NODE, PROP}
use Rattle.format.specs.Answer.{Outcome, ok}
use Rattle.format.specs.Tree.{Property, Node, node, Nodes, ◌&◌, Reservation, Tree, depth, depths}
use Rattle.format.specs.Rules.{Rules}
use Rattle.format.specs.Encodes.{GoodName, GoodProperties, GoodNode, GoodNodes, LastEnds, Block, PropertyAt, after_property, after_properties, after_name, after_node, after_nodes, PropertiesAt, NodeAt, NodesAt, ReservationAt, ReservationsAt, Encodes}
use Rattle.format.specs.Read.{Read, property, properties, nodes, node_load, reservation, reservations, Header, header, body, load_within}
use Rattle.format.proofs.Tools.{if_went}
use Rattle.format.proofs.Answer.{never, ok_same, step, checked}
use Rattle.format.proofs.Utf8.{utf8_exact}
use Rattle.format.proofs.Read.{word_read, long_read, string_read, part_read}

module _ (b : List ℕ) (all : AreBytes b) (strings : Block) where
  -- a part of a tree that was read at p: it stands there, and what follows it begins where the reader says
  record PropertyRead (p : ℕ) (r : Read Property) : Type 0 where
    good : GoodName r.value.name
    at : PropertyAt b strings p r.value
    next : r.next ≡ after_property p r.value

  property_sound : (p : ℕ) (r : Read Property) → Has b p (word PROP) → property b strings p ≡ ok r → PropertyRead p r
  unfolding property after_property
  property_sound p r token e =
      step _ _ e λ size hsize e.
      step _ _ e λ offset hoffset e.
      step _ _ e λ value hvalue e.
      step _ _ e λ name hname e.
      step _ _ e λ _ hutf8 e.
      let inside = part_read b (p + 12) size hvalue in
      let string = string_read (take strings.end b) (strings.start + offset) hname in
      subst (PropertyRead p) (ok_same e) (record {
        good = record { nonzero = string.nonzero; utf8 = (utf8_exact name).0 (checked _ _ hutf8) };
        at = record {
          offset = offset;
          token = token;
          size = rw inside.size (word_read b (p + 4) all hsize);
          name_offset = word_read b (p + 8) all hoffset;
          value = inside.bytes;
          inside = rw inside.size inside.ends;
          name = string.bytes;
        };
        next = rw inside.size;
      })

  record PropertiesRead (p : ℕ) (r : Read (List Property)) : Type 0 where
    good : GoodProperties r.value
    at : PropertiesAt b strings p r.value
    next : r.next ≡ after_properties p r.value

  property_first : (p : ℕ) (x : Read Property) (xs : Read (List Property)) → PropertyRead p x → PropertiesRead x.next xs
      → PropertiesRead p (record { value = x.value ∷ xs.value; next = xs.next })
  unfolding GoodProperties PropertiesAt after_properties
  property_first p x xs h hs = record { good = (h.good, hs.good); at = (h.at, rw h.next at hs.at); next = hs.next ∙ rw h.next }

  properties_sound : (fuel p : ℕ) (r : Read (List Property)) → properties b strings fuel p ≡ ok r → PropertiesRead p r
  unfolding properties GoodProperties PropertiesAt after_properties
  properties_sound zero p r e = absurd (never e)
  properties_sound (suc fuel) p r e =
      step _ _ e λ token htoken e.
      if_went _ _ _ e
      (λ t e.
      step _ _ e λ x hx e.
      step _ _ e λ xs hxs e.
      subst (PropertiesRead p) (ok_same e)
      (property_first p x xs
      (property_sound p x (rw (eqb-true token PROP t) at (word_read b p all htoken)) hx)
      (properties_sound fuel x.next xs hxs)))
      (λ t e. subst (PropertiesRead p) (ok_same e) (record { good = tt; at = tt; next = refl }))

  pub record NodeRead (d p : ℕ) (r : Read Node) : Type 0 where
    pub good : GoodNode r.value
    pub at : NodeAt b strings p r.value
    pub next : r.next ≡ after_node p r.value
    pub deep : depth r.value ≤ d

  record NodesRead (d p : ℕ) (r : Read Nodes) : Type 0 where
    good : GoodNodes r.value
    at : NodesAt b strings p r.value
    next : r.next ≡ after_nodes p r.value
    deep : depths r.value ≤ d

  node_first : (d p : ℕ) (n : Read Node) (ns : Read Nodes) → NodeRead d p n → NodesRead d n.next ns
      → NodesRead d p (record { value = n.value & ns.value; next = ns.next })
  unfolding GoodNodes NodesAt after_nodes depths
  node_first d p n ns h hs = record {
    good = (h.good, hs.good);
    at = (h.at, rw h.next at hs.at);
    next = hs.next ∙ rw h.next;
    deep = omega arith;
  }

  -- children, if what reads one is sound
  module _ (d : ℕ) (load : ℕ → Outcome (Read Node)) (sound : (p : ℕ) (r : Read Node) → load p ≡ ok r → NodeRead d p r) where
    nodes_sound : (fuel p : ℕ) (r : Read Nodes) → nodes b load fuel p ≡ ok r → NodesRead d p r
    unfolding nodes GoodNodes NodesAt after_nodes depths
    nodes_sound zero p r e = absurd (never e)
    nodes_sound (suc fuel) p r e =
        step _ _ e λ token htoken e.
        if_went _ _ _ e
        (λ t e.
        step _ _ e λ n hn e.
        step _ _ e λ ns hns e.
        subst (NodesRead d p) (ok_same e) (node_first d p n ns (sound p n hn) (nodes_sound fuel n.next ns hns)))
        (λ t e. subst (NodesRead d p) (ok_same e) (record { good = tt; at = tt; next = refl; deep = omega arith }))

  node_whole : (d p : ℕ) (name : List ℕ) (xs : Read (List Property)) (ns : Read Nodes)
      → Has b p (word BEGIN_NODE) → GoodName name → Has b (p + 4) (name ++ 0 ∷ []) → PropertiesRead (after_name p name) xs
      → NodesRead d xs.next ns → Has b ns.next (word END_NODE)
      → NodeRead (suc d) p (record { value = node name xs.value ns.value; next = ns.next + 4 })
  unfolding GoodNode NodeAt after_node depth
  node_whole d p name xs ns begin good n hx hn end =
      let after : ns.next ≡ after_nodes (after_properties (after_name p name) xs.value) ns.value = hn.next ∙ rw hx.next in
      record {
        good = (good, hx.good, hn.good);
        at = (begin, n, hx.at, rw hx.next at hn.at, rw after at end);
        next = ap (λ q. q + 4) after;
        deep = omega arith;
      }

  pub node_sound : (d p : ℕ) (r : Read Node) → node_load b strings d p ≡ ok r → NodeRead d p r
  unfolding node_load after_name
  node_sound zero p r e = absurd (never e)
  node_sound (suc d) p r e =
      step _ _ e λ begin hbegin e.
      step _ _ e λ _ isBegin e.
      step _ _ e λ name hname e.
      step _ _ e λ xs hxs e.
      step _ _ e λ ns hns e.
      step _ _ e λ end hend e.
      step _ _ e λ _ isEnd e.
      step _ _ e λ _ hutf8 e.
      let string = string_read b (p + 4) hname in
      subst (NodeRead (suc d) p) (ok_same e)
      (node_whole d p name xs ns
      (rw (eqb-true begin BEGIN_NODE (checked _ _ isBegin)) at (word_read b p all hbegin))
      (record { nonzero = string.nonzero; utf8 = (utf8_exact name).0 (checked _ _ hutf8) })
      string.bytes
      (properties_sound (length b) (after_name p name) xs hxs)
      (nodes_sound d (λ q. node_load b strings d q) (λ q s k. node_sound d q s k) (length b) xs.next ns hns)
      (rw (eqb-true end END_NODE (checked _ _ isEnd)) at (word_read b ns.next all hend)))

module _ (b : List ℕ) (all : AreBytes b) where
  reservation_sound : (p : ℕ) (r : Reservation) → reservation b p ≡ ok r → ReservationAt b p r
  unfolding reservation
  reservation_sound p r e =
      step _ _ e λ offset hoffset e.
      step _ _ e λ size hsize e.
      subst (ReservationAt b p) (ok_same e) (record { offset = long_read b p all hoffset; size = long_read b (p + 8) all hsize })

  record ReservationsRead (is_last : Reservation → Bool) (p : ℕ) (rs : List Reservation) : Type 0 where
    last : LastEnds is_last rs
    at : ReservationsAt b p rs

  ends_later : (is_last : Reservation → Bool) (r : Reservation) (rs : List Reservation) → is_last r ≡ false → LastEnds is_last rs → LastEnds is_last (r ∷ rs)
  unfolding LastEnds
  ends_later is_last r [] e h = absurd h
  ends_later is_last r (s ∷ rs) e h = (e, h)

  reservations_sound : (is_last : Reservation → Bool) (fuel p : ℕ) (rs : List Reservation) → reservations is_last b fuel p ≡ ok rs → ReservationsRead is_last p rs
  unfolding reservations ReservationsAt LastEnds
  reservations_sound is_last zero p rs e = absurd (never e)
  reservations_sound is_last (suc fuel) p rs e =
      step _ _ e λ r hr e.
      if_went _ _ _ e
      (λ t e. subst (ReservationsRead is_last p) (ok_same e) (record { last = t; at = (reservation_sound p r hr, tt) }))
      (λ t e.
      step _ _ e λ rest hrest e.
      let ih = reservations_sound is_last fuel (p + 16) rest hrest in
      subst (ReservationsRead is_last p) (ok_same e) (record { last = ends_later is_last r rest t ih.last; at = (reservation_sound p r hr, ih.at) }))

  -- the words of a header that was read
  record HeaderRead (h : Header) : Type 0 where
    magic_is : Has b magic_at (word magic)
    length_is : Has b total_size_at (word (length b))
    structure_is : Has b structure_at (word h.structure)
    strings_is : Has b strings_at (word h.strings)
    reservations_is : Has b reservations_at (word h.reservations)
    version_is : Has b version_at (word version)
    boot_is : Has b boot_cpu_at (word h.boot)

  header_sound : (h : Header) → header b ≡ ok h → HeaderRead h
  unfolding header
  header_sound h e =
      step _ _ e λ m hm e.
      step _ _ e λ _ isMagic e.
      step _ _ e λ size hsize e.
      step _ _ e λ _ isSize e.
      step _ _ e λ v hv e.
      step _ _ e λ _ isVersion e.
      step _ _ e λ structure hstructure e.
      step _ _ e λ strings hstrings e.
      step _ _ e λ reserved hreserved e.
      step _ _ e λ boot hboot e.
      subst HeaderRead (ok_same e) (record {
        magic_is = rw (eqb-true m magic (checked _ _ isMagic)) at (word_read b magic_at all hm);
        length_is = rw (eqb-true size (length b) (checked _ _ isSize)) at (word_read b total_size_at all hsize);
        structure_is = word_read b structure_at all hstructure;
        strings_is = word_read b strings_at all hstrings;
        reservations_is = word_read b reservations_at all hreserved;
        version_is = rw (eqb-true v version (checked _ _ isVersion)) at (word_read b version_at all hv);
        boot_is = word_read b boot_cpu_at all hboot;
      })

  -- What is loaded is encoded, and not too deep.
  pub record Sound (rules : Rules) (d : ℕ) (t : Tree) : Type 0 where
    pub encodes : Encodes rules b t
    pub deep : depth t.root ≤ d

  pub sound : (rules : Rules) (d : ℕ) (t : Tree) → load_within rules d b ≡ ok t → Sound rules d t
  unfolding load_within body
  sound rules d t e =
      step _ _ e λ h hh e.
      step _ _ e λ rs hrs e.
      step _ _ e λ root hroot e.
      let words = header_sound h hh in
      let list = reservations_sound rules.is_last (length b) h.reservations rs hrs in
      let node = node_sound b all (record { start = h.strings; end = rules.strings_end b }) d h.structure root hroot in
      subst (Sound rules d) (ok_same e) (record {
        encodes = record {
          good = record { names = node.good; last = list.last };
          layout = record {
            structure = h.structure;
            strings = h.strings;
            reservations = h.reservations;
            magic_is = words.magic_is;
            length_is = words.length_is;
            structure_is = words.structure_is;
            strings_is = words.strings_is;
            reservations_is = words.reservations_is;
            version_is = words.version_is;
            boot_is = words.boot_is;
            reserved = list.at;
            root = node.at;
          };
        };
        deep = node.deep;
      })
