-- How csv splits lines, each before a line feed, with its settings for these tables.
use Rattle.plan_num.proofs.Common.{◌≡◌, ◌≢◌, ℕ, Bool, true, false, eqb, List, [], ◌∷◌, ◌++◌, refl}
use Rattle.plan_num.proofs.Common.{ap, ◌∙◌, All, Option, Some, None, append_assoc, append-nil}
use Rattle.plan_num.proofs.Common.{ne_eqb, cond, filter, arith, MatchBool, onto_first, All-head}
use Rattle.plan_num.proofs.Common.{All-tail}
use Rattle.std.specs.List.{slice_split}
use Rattle.csv.specs.Machine.{step, is_end, fields_after, field_after, next_record}
use Rattle.csv.specs.declared.parser.State.{State}
use Rattle.csv.specs.declared.parser.State.TheVariants as st
use Rattle.csv.specs.declared.parser.Action.{Action}
use Rattle.csv.specs.declared.parser.Action.TheVariants as act
use Rattle.csv.specs.declared.reader.Reader.{Reader}
use Rattle.csv.specs.Reading.{NextIs, ReadsNext, ReadRecord, has_failed, is_flexible, pending_of}
use Rattle.csv.specs.Reading.{strip_bom, took_first}
use Rattle.text_fields.specs.declared.handed.Handed.{Handed}
use Rattle.text_fields.specs.Rows.{has_byte, pieces}
use Rattle.text_fields.specs.Handed.{AreLines, Awaits, ReadsLine, fed, handed_left, table_config}

-- the state in a field, or at its start
abbrev within : Bool → State
within true = st.InField
within false = st.StartField

-- a semicolon ends a field
at_semicolon : (b : Bool) (c : ℕ) → eqb c 59 ≡ true
    → step table_config (within b) c ≡ (st.StartField, act.EndField)
at_semicolon true c e = rw e refl
at_semicolon false c e = rw e refl

-- another byte joins it
at_other : (b : Bool) (c : ℕ) → eqb c 59 ≡ false → eqb c 10 ≡ false
    → step table_config (within b) c ≡ (st.InField, act.Copy)
at_other true c e f = rw (e, f) refl
at_other false c e f = rw (e, f) refl

-- a byte that does not end the record
goes_on : (s t : State) (a : Action) (fields : List (List ℕ)) (field : List ℕ) (c : ℕ)
    (rest : List ℕ) → step table_config s c ≡ (t, a) → is_end a ≡ false
    → next_record table_config s fields field (c ∷ rest)
    ≡ next_record table_config t (fields_after a fields field) (field_after a c field) rest
unfolding next_record
goes_on s t a fields field c rest e f = rw e (rw f refl)

-- bytes put before the first piece
abbrev pub onto : List ℕ → List (List ℕ) → List (List ℕ)
onto field [] = field ∷ []
onto field (piece ∷ more) = (field ++ piece) ∷ more

onto_nothing_if : (t : Bool) (c : ℕ) (parts : List (List ℕ))
    → let all : List (List ℕ) = cond t ([] ∷ parts) (onto_first c parts) in onto [] all ≡ all
onto_nothing_if true c parts = refl
onto_nothing_if false c [] = refl
onto_nothing_if false c (piece ∷ more) = refl

-- no bytes put before the first piece change nothing
pub onto_nothing : (test : ℕ → Bool) (line : List ℕ)
    → onto [] (slice_split test line) ≡ slice_split test line
onto_nothing test [] = refl
onto_nothing test (c ∷ rest) = onto_nothing_if (test c) c (slice_split test rest)

abbrev ends_piece : ℕ → Bool
ends_piece byte = eqb byte 59

-- one byte more before the first piece
pub onto_byte : (field : List ℕ) (c : ℕ) (parts : List (List ℕ))
    → onto (field ++ c ∷ []) parts ≡ onto field (onto_first c parts)
onto_byte field c [] = refl
onto_byte field c (piece ∷ more) =
    ap (λ (part : List ℕ). part ∷ more) (append_assoc field (c ∷ []) piece)

module _ (after : List ℕ) where
  -- what csv gives from a place in a line to the line feed at its end, and what it then has left
  abbrev Gives : Bool → List (List ℕ) → List ℕ → List ℕ → Type 0
  Gives b fields field line =
      next_record table_config (within b) fields field (line ++ 10 ∷ after)
      ≡ Some (fields ++ onto field (pieces line), st.StartRecord, after)

  splits_byte : (b : Bool) (fields : List (List ℕ)) (field : List ℕ) (c : ℕ) (rest : List ℕ)
      → eqb c 10 ≡ false → (t : Bool) → eqb c 59 ≡ t
      → ((b : Bool) (fields : List (List ℕ)) (field : List ℕ) → Gives b fields field rest)
      → Gives b fields field (c ∷ rest)
  splits_byte b fields field c rest plain true e more =
      goes_on (within b) st.StartField act.EndField fields field c (rest ++ 10 ∷ after)
      (at_semicolon b c e) refl ∙ more false (fields ++ field ∷ []) []
      ∙ rw (e, onto_nothing ends_piece rest, append_assoc fields (field ∷ []) (pieces rest), append-nil field)
      refl
  splits_byte b fields field c rest plain false e more =
      goes_on (within b) st.InField act.Copy fields field c (rest ++ 10 ∷ after)
      (at_other b c e plain) refl ∙ more true fields (field ++ c ∷ [])
      ∙ rw (e, onto_byte field c (pieces rest)) refl

  -- the rest of a line gives its pieces, the first of them behind the field at hand
  splits : (b : Bool) (fields : List (List ℕ)) (field line : List ℕ) → All (λ byte. byte ≢ 10) line
      → Gives b fields field line
  unfolding next_record
  splits true fields field [] h = rw (append-nil field) refl
  splits false fields field [] h = rw (append-nil field) refl
  splits b fields field (c ∷ rest) h =
      let plain = ne_eqb c 10 (All-head (λ byte. byte ≢ 10) c rest h) in
      splits_byte b fields field c rest plain (eqb c 59) refl
      (λ b fields field. splits b fields field rest (All-tail (λ byte. byte ≢ 10) c rest h))

  -- the first byte of a line is that of its first field
  begins : (c : ℕ) (rest : List ℕ) → eqb c 10 ≡ false
      → next_record table_config st.StartRecord [] [] (c ∷ rest)
      ≡ next_record table_config st.StartField [] [] (c ∷ rest)
  unfolding next_record
  begins c rest plain = rw plain refl

  -- a line with a byte is one record, of its pieces
  splits_line : (c : ℕ) (rest : List ℕ) → All (λ byte. byte ≢ 10) (c ∷ rest)
      → next_record table_config st.StartRecord [] [] ((c ∷ rest) ++ 10 ∷ after)
      ≡ Some (pieces (c ∷ rest), st.StartRecord, after)
  splits_line c rest h =
      begins c (rest ++ 10 ∷ after) (ne_eqb c 10 (All-head (λ byte. byte ≢ 10) c rest h))
      ∙ splits false [] [] (c ∷ rest) h
      ∙ ap (λ (parts : List (List ℕ)). Some (parts, st.StartRecord, after))
      (onto_nothing ends_piece (c ∷ rest))

  -- a line feed alone is passed over
  passes_feed : next_record table_config st.StartRecord [] [] (10 ∷ after)
      ≡ next_record table_config st.StartRecord [] [] after
  unfolding next_record
  passes_feed = refl

-- what csv gives of lines of which these have a byte, and what it then has left
abbrev NextGives : List (List ℕ) → List (List ℕ) → Type 0
NextGives parts [] = next_record table_config st.StartRecord [] [] (fed parts) ≡ None
NextGives parts (line ∷ more) =
    (rest : List (List ℕ)) × AreLines rest more
    × (next_record table_config st.StartRecord [] [] (fed parts)
    ≡ Some (pieces line, st.StartRecord, fed rest))

gives_none : (lines : List (List ℕ)) → [] ≡ lines → NextGives [] lines
unfolding fed next_record
gives_none [] e = refl
gives_none (line ∷ more) e = cc

gives_first : (c : ℕ) (rest : List ℕ) (parts lines : List (List ℕ))
    → All (λ part. All (λ byte. byte ≢ 10) part) ((c ∷ rest) ∷ parts)
    → (c ∷ rest) ∷ filter has_byte parts ≡ lines → NextGives ((c ∷ rest) ∷ parts) lines
unfolding fed
gives_first c rest parts [] plain e = cc
gives_first c rest parts (line ∷ more) plain e =
    let first : c ∷ rest ≡ line = cc in
    let others : filter has_byte parts ≡ more = cc in (
      parts,
      record { plain = All-tail (λ part. All (λ byte. byte ≢ 10) part) (c ∷ rest) parts plain; some = others },
      splits_line (fed parts) c rest (All-head (λ part. All (λ byte. byte ≢ 10) part) (c ∷ rest) parts plain)
          ∙ ap (λ (line : List ℕ). Some (pieces line, st.StartRecord, fed parts)) first,
    )

gives_over : (parts lines : List (List ℕ)) → NextGives parts lines → NextGives ([] ∷ parts) lines
unfolding fed
gives_over parts [] next = passes_feed (fed parts) ∙ next
gives_over parts (line ∷ more) next = (next.0, next.1, passes_feed (fed parts) ∙ next.2)

gives_next : (parts lines : List (List ℕ)) → All (λ part. All (λ byte. byte ≢ 10) part) parts
    → filter has_byte parts ≡ lines → NextGives parts lines
gives_next [] lines plain e = gives_none lines e
gives_next ([] ∷ parts) lines plain e =
    gives_over parts lines (gives_next parts lines (All-tail (λ part. All (λ byte. byte ≢ 10) part) [] parts plain) e)
gives_next ((c ∷ rest) ∷ parts) lines plain e = grind (arith, ne_eqb, gives_first)

-- what a read shows of lines of which these have a byte
abbrev Shown : List (List ℕ) → Option (List ℕ) → Bool → List (List ℕ) → State → Type 0
Shown [] pending found fields after = found ≡ false
Shown (line ∷ more) pending found fields after =
    (rest : List (List ℕ)) × AreLines rest more × (fields ≡ pieces line) × (found ≡ true)
    × (after ≡ st.StartRecord) × (pending ≡ Some (fed rest))

shown : (parts lines : List (List ℕ)) → NextGives parts lines → (left : List ℕ) (found : Bool)
    (fields : List (List ℕ)) (after : State)
    → NextIs (next_record table_config st.StartRecord [] [] (fed parts)) found fields after left
    → Shown lines (Some left) found fields after
shown parts [] next left found fields after read = rw next at read
shown parts (line ∷ more) next left found fields after read = grind arith

shown_after : (parts lines : List (List ℕ)) → AreLines parts lines → (pending : Option (List ℕ))
    (found : Bool) (fields : List (List ℕ)) (after : State)
    → ReadsNext table_config st.StartRecord (Some (fed parts)) pending found fields after
    → Shown lines pending found fields after
shown_after parts lines are None found fields after read = absurd read
shown_after parts lines are (Some left) found fields after read =
    shown parts lines (gives_next parts lines are.plain are.some) left found fields after read

-- a read gives the pieces of the first line, and leaves the others
pub read_gives : (old new : Reader Handed) (lines : List (List ℕ)) (found : Bool)
    (fields : List (List ℕ)) → Awaits old lines → ReadRecord handed_left old new found fields
    → took_first new ≡ true → is_flexible new ≡ is_flexible old → has_failed new ≡ has_failed old
    → MatchBool found (ReadsLine lines new fields) (lines ≡ [])
read_gives old new [] found fields awaits read first flexible goes =
    let none = shown_after awaits.parts [] awaits.are (pending_of (handed_left new.rdr) new) found
    fields new.state (rw (awaits.config, awaits.state, awaits.source) at read.0) in grind arith
read_gives old new (line ∷ more) found fields awaits read first flexible goes =
    let given = shown_after awaits.parts (line ∷ more) awaits.are
    (pending_of (handed_left new.rdr) new) found fields new.state
    (rw (awaits.config, awaits.state, awaits.source) at read.0) in grind arith

-- a line feed at the front is no byte order mark
no_mark : (text : List ℕ) → strip_bom (10 ∷ text) ≡ 10 ∷ text
unfolding strip_bom
no_mark [] = refl
no_mark (b ∷ []) = refl
no_mark (b ∷ c ∷ rest) = refl

pub no_mark_first : (parts : List (List ℕ)) → strip_bom (fed ([] ∷ parts)) ≡ fed ([] ∷ parts)
unfolding fed
no_mark_first parts = no_mark (fed parts)
