-- Words are the parts of at most one command.
use Rattle.std.proofs.Common.{◌≡◌, ◌⊎◌, inl, inr, ℕ, Bool, true, false, not, List, [], ◌∷◌, ◌++◌, map, codes, Option, Some, None, Result, Ok, Err, refl, sym, ap, subst, ◌∙◌, append_assoc, append-nil}
use Rattle.std.specs.Prelude.{◌<◌, suc, ◌≤◌, drop, get_or, decimal, ◌&&◌, ◌==◌, IfNone, IfSome, if◌then◌else◌, length, IsTrue, nat_le, ◌^◌, option_to_list, is_none, nat_eq, String, string_bytes}
use Rattle.std.specs.declared.alloc.Global.{Global}
use Rattle.std.specs.List.{flat_map}
use Rattle.std.specs.Cmp.Lexicographic.{pointwise}
use Rattle.std.specs.Str.{bytes_eq}
use Rattle.std.proofs.Common.{arith, rules}
use Rattle.std.proofs.lemmas.Grind.{flat_map-append}
use Rattle.std.proofs.lemmas.List.{flat_map_more}
use Rattle.std.proofs.lemmas.Fmt.{decimal_injective, parse-decimal}
use Rattle.std.proofs.lemmas.Slice.Eq.{bytes_eq-Decides}
use Rattle.std.proofs.lemmas.Bool.Decides.{nat_tests}
use Rattle.std.specs.Bool.{then_some}
use Rattle.std.specs.Str.Parse.{ParsesUnsigned}
use Rattle.srmtrun.specs.declared.words.Mode.{Mode}
use Rattle.srmtrun.specs.declared.words.Mode.TheVariants.{Single, Alternate, Reference, Check}
use Rattle.srmtrun.specs.declared.words.Question.{Question}
use Rattle.srmtrun.specs.declared.words.Question.TheVariants.{Help, Version}
use Rattle.srmtrun.specs.declared.words.Flag.{Flag}
use Rattle.srmtrun.specs.declared.words.Flag.TheVariants as flag
use Rattle.srmtrun.specs.Words.{flag_of, names_file, names_source, Command, Part, moded, main_file, binary_file, input_file, turn_limit, spell, IsNamed, AreNamed, mode_in, program_in, binary_in, input_in, turns_in, IsTurns, MayHaveOptions, Takes, Asks, texts}
use Rattle.srmtrun.specs.Reading.{text_of, Said, Begins, added, Says, SaysBefore, IsCommand}

-- ---- flags

abbrev flag_read : List ℕ → Option Flag
flag_read word = if pointwise nat_eq word (codes "--single") then Some (flag.Mode Single) else (if pointwise nat_eq word (codes "--alternate") then Some (flag.Mode Alternate)
    else (if pointwise nat_eq word (codes "--check") then Some (flag.Mode Check) else (if pointwise nat_eq word (codes "--reference") then Some (flag.Mode Reference)
    else (if pointwise nat_eq word (codes "--binary") then Some flag.Binary else (if pointwise nat_eq word (codes "--input") then Some flag.Input
    else (if pointwise nat_eq word (codes "--turns") then Some flag.Turns else None))))))

read_again : (f : Flag) → flag_read (text_of f) ≡ Some f
read_again (flag.Mode Single) = refl
read_again (flag.Mode Alternate) = refl
read_again (flag.Mode Reference) = refl
read_again (flag.Mode Check) = refl
read_again flag.Binary = refl
read_again flag.Input = refl
read_again flag.Turns = refl

pub one_flag : (f g : Flag) → text_of f ≡ text_of g → f ≡ g
one_flag f g e = let same : Some f ≡ Some g = sym (read_again f) ∙ ap flag_read e ∙ read_again g in cc

-- no flag names a file
pub no_file : (f : Flag) → names_file (text_of f) ≡ false
no_file (flag.Mode Single) = refl
no_file (flag.Mode Alternate) = refl
no_file (flag.Mode Reference) = refl
no_file (flag.Mode Check) = refl
no_file flag.Binary = refl
no_file flag.Input = refl
no_file flag.Turns = refl

pub no_flag : (f : Flag) (name : List ℕ) → IsTrue (names_source name) → name ≡ text_of f → ⊥
no_flag f name source e = let none = ap names_file e ∙ no_file f in let both : names_source name ≡ true = source in absurd (search (rules, none, both))

-- ---- one part

heads : (a b : List ℕ) (r s : List (List ℕ)) → a ∷ r ≡ b ∷ s → (a ≡ b) × (r ≡ s)
heads a b r s e = (cc, cc)

apart : (f g : Flag) (r s : List (List ℕ)) → (f ≡ g → ⊥) → text_of f ∷ r ≡ text_of g ∷ s → ⊥
apart f g r s other e = other (one_flag f g (heads (text_of f) (text_of g) r s e).0)

named_apart : (f : Flag) (name : List ℕ) (r s : List (List ℕ)) → IsTrue (names_source name) → text_of f ∷ r ≡ name ∷ s → ⊥
named_apart f name r s source e = no_flag f name source (sym (heads (text_of f) name r s e).0)

no_words : (p : Part) (r : List (List ℕ)) → spell p ++ r ≡ [] → ⊥
no_words (moded m) r e = cc
no_words (main_file n) r e = cc
no_words (binary_file n) r e = cc
no_words (input_file n) r e = cc
no_words (turn_limit n) r e = cc

-- a number has one text
one_number : (m n : ℕ) → IsTurns m → IsTurns n → decimal m ≡ decimal n → m ≡ n
one_number m n h k e = decimal_injective m n (let l = h.most in omega arith) (let l = k.most in omega arith) e

pub one_part : (p q : Part) (r s : List (List ℕ)) → spell p ++ r ≡ spell q ++ s → IsNamed p → IsNamed q → (p ≡ q) × (r ≡ s)
one_part (moded m) (moded n) r s e h k =
    let both = heads (flag_of m) (flag_of n) r s e in
    let flags = one_flag (flag.Mode m) (flag.Mode n) both.0 in
    let same : m ≡ n = cc in (ap moded same, both.1)
one_part (moded m) (main_file n) r s e h k = absurd (named_apart (flag.Mode m) n r s k e)
one_part (moded m) (binary_file n) r s e h k = absurd (apart (flag.Mode m) flag.Binary r (n ∷ s) (λ o. cc) e)
one_part (moded m) (input_file n) r s e h k = absurd (apart (flag.Mode m) flag.Input r (n ∷ s) (λ o. cc) e)
one_part (moded m) (turn_limit n) r s e h k = absurd (apart (flag.Mode m) flag.Turns r (decimal n ∷ s) (λ o. cc) e)
one_part (main_file m) (moded n) r s e h k = absurd (named_apart (flag.Mode n) m s r h (sym e))
one_part (main_file m) (main_file n) r s e h k = let both = heads m n r s e in (ap main_file both.0, both.1)
one_part (main_file m) (binary_file n) r s e h k = absurd (named_apart flag.Binary m (n ∷ s) r h (sym e))
one_part (main_file m) (input_file n) r s e h k = absurd (named_apart flag.Input m (n ∷ s) r h (sym e))
one_part (main_file m) (turn_limit n) r s e h k = absurd (named_apart flag.Turns m (decimal n ∷ s) r h (sym e))
one_part (binary_file m) (moded n) r s e h k = absurd (apart flag.Binary (flag.Mode n) (m ∷ r) s (λ o. cc) e)
one_part (binary_file m) (main_file n) r s e h k = absurd (named_apart flag.Binary n (m ∷ r) s k e)
one_part (binary_file m) (binary_file n) r s e h k =
    let both = heads m n r s (heads (codes "--binary") (codes "--binary") (m ∷ r) (n ∷ s) e).1 in (ap binary_file both.0, both.1)
one_part (binary_file m) (input_file n) r s e h k = absurd (apart flag.Binary flag.Input (m ∷ r) (n ∷ s) (λ o. cc) e)
one_part (binary_file m) (turn_limit n) r s e h k = absurd (apart flag.Binary flag.Turns (m ∷ r) (decimal n ∷ s) (λ o. cc) e)
one_part (input_file m) (moded n) r s e h k = absurd (apart flag.Input (flag.Mode n) (m ∷ r) s (λ o. cc) e)
one_part (input_file m) (main_file n) r s e h k = absurd (named_apart flag.Input n (m ∷ r) s k e)
one_part (input_file m) (binary_file n) r s e h k = absurd (apart flag.Input flag.Binary (m ∷ r) (n ∷ s) (λ o. cc) e)
one_part (input_file m) (input_file n) r s e h k =
    let both = heads m n r s (heads (codes "--input") (codes "--input") (m ∷ r) (n ∷ s) e).1 in (ap input_file both.0, both.1)
one_part (input_file m) (turn_limit n) r s e h k = absurd (apart flag.Input flag.Turns (m ∷ r) (decimal n ∷ s) (λ o. cc) e)
one_part (turn_limit m) (moded n) r s e h k = absurd (apart flag.Turns (flag.Mode n) (decimal m ∷ r) s (λ o. cc) e)
one_part (turn_limit m) (main_file n) r s e h k = absurd (named_apart flag.Turns n (decimal m ∷ r) s k e)
one_part (turn_limit m) (binary_file n) r s e h k = absurd (apart flag.Turns flag.Binary (decimal m ∷ r) (n ∷ s) (λ o. cc) e)
one_part (turn_limit m) (input_file n) r s e h k = absurd (apart flag.Turns flag.Input (decimal m ∷ r) (n ∷ s) (λ o. cc) e)
one_part (turn_limit m) (turn_limit n) r s e h k =
    let both = heads (decimal m) (decimal n) r s (heads (codes "--turns") (codes "--turns") (decimal m ∷ r) (decimal n ∷ s) e).1 in
    (ap turn_limit (one_number m n h k both.0), both.1)

-- words that begin with neither a flag nor the name of a source begin with no part
pub no_part : (word : List ℕ) (behind : List (List ℕ)) → names_source word ≡ false → ((f : Flag) → word ≡ text_of f → ⊥) → (p : Part) (rest : List (List ℕ)) → Begins (word ∷ behind) p rest → ⊥
no_part word behind source none (moded m) rest b = none (flag.Mode m) (heads word (flag_of m) behind rest b.spelled).0
no_part word behind source none (main_file n) rest b =
    let other : IsTrue false = subst IsTrue (sym (ap names_source (heads word n behind rest b.spelled).0) ∙ source) b.named in absurd cc
no_part word behind source none (binary_file n) rest b = none flag.Binary (heads word (codes "--binary") behind (n ∷ rest) b.spelled).0
no_part word behind source none (input_file n) rest b = none flag.Input (heads word (codes "--input") behind (n ∷ rest) b.spelled).0
no_part word behind source none (turn_limit n) rest b = none flag.Turns (heads word (codes "--turns") behind (decimal n ∷ rest) b.spelled).0

-- ---- lists of parts

behind_parts : (ps qs : List Part) (left : List (List ℕ)) → flat_map spell ps ++ left ≡ flat_map spell qs → AreNamed ps → AreNamed qs
    → (more : List Part) × (qs ≡ ps ++ more) × (left ≡ flat_map spell more) × AreNamed more
behind_parts [] qs left e h k = (qs, refl, e, k)
behind_parts (p ∷ ps) [] left e h k = absurd (no_words p (flat_map spell ps ++ left) (sym (append_assoc (spell p) (flat_map spell ps) left) ∙ e))
behind_parts (p ∷ ps) (q ∷ qs) left e h k =
    let one = one_part p q (flat_map spell ps ++ left) (flat_map spell qs) (sym (append_assoc (spell p) (flat_map spell ps) left) ∙ e) h.0 k.0 in
    let on = behind_parts ps qs left one.1 h.1 k.1 in
    (on.0, ap (λ (x : Part). x ∷ qs) (sym one.0) ∙ ap (λ (xs : List Part). p ∷ xs) on.1, on.2, on.3)

no_parts : (more : List Part) → [] ≡ flat_map spell more → more ≡ []
no_parts [] e = refl
no_parts (p ∷ more) e = absurd (no_words p (flat_map spell more) (sym e))

named_more : (ps : List Part) (p : Part) → AreNamed ps → IsNamed p → AreNamed (ps ++ p ∷ [])
named_more [] p h k = (k, tt)
named_more (q ∷ ps) p h k = (h.0, named_more ps p h.1 k)

module _ {X : Type 0} (f : Part → List X) where
  unchanged : (ps : List Part) (p : Part) → f p ≡ [] → flat_map f (ps ++ p ∷ []) ≡ flat_map f ps
  unchanged ps p e = flat_map-append f ps (p ∷ []) ∙ ap (λ (l : List X). flat_map f ps ++ (l ++ [])) e ∙ append-nil (flat_map f ps)

  first_one : (ps : List Part) (p : Part) (x : X) → f p ≡ x ∷ [] → flat_map f ps ≡ [] → flat_map f (ps ++ p ∷ []) ≡ x ∷ []
  first_one ps p x e none = flat_map-append f ps (p ∷ []) ∙ ap (λ (l : List X). l ++ (f p ++ [])) none ∙ ap (λ (l : List X). l ++ []) e

  no_two : (o : Option X) (x y : X) (r : List X) → option_to_list o ≡ x ∷ y ∷ r → ⊥
  no_two None x y r e = cc
  no_two (Some z) x y r e = cc

  twice : (ps : List Part) (p : Part) (more : List Part) (x y : X) (o : Option X) → flat_map f ps ≡ x ∷ [] → f p ≡ y ∷ [] → flat_map f (ps ++ p ∷ more) ≡ option_to_list o → ⊥
  twice ps p more x y o one two all = no_two o x y (flat_map f more)
      (sym all ∙ flat_map-append f ps (p ∷ more) ∙ ap (λ (l : List X). l ++ (f p ++ flat_map f more)) one ∙ ap (λ (l : List X). x ∷ (l ++ flat_map f more)) two)

same_option : {X : Type 0} (a b : Option X) → option_to_list a ≡ option_to_list b → a ≡ b
same_option None None e = refl
same_option None (Some y) e = absurd cc
same_option (Some x) None e = absurd cc
same_option (Some x) (Some y) e = let same : x ≡ y = cc in ap Some same

when_none : {A B : Type 0} (o : Option A) (t next : B) → (if is_none o then Some t else None) ≡ Some next → (o ≡ None) × (t ≡ next)
when_none None t next e = (refl, cc)
when_none (Some x) t next e = absurd cc

when_some : {A B : Type 0} (o : Option A) (t : B) → (if is_none o then Some t else None) ≡ None → (x : A) × (o ≡ Some x)
when_some None t e = absurd cc
when_some (Some x) t e = (x, refl)

-- one part more
adds : (s next : Said) (p : Part) (ps : List Part) → added s p ≡ Some next → Says ps s → Says (ps ++ p ∷ []) next
adds s next (moded m) ps e says =
    let w = when_none s.mode (record s { mode = Some m }) next e in
    subst (λ (t : Said). Says (ps ++ moded m ∷ []) t) w.1 (record {
      mode = first_one mode_in ps (moded m) m refl (says.mode ∙ ap option_to_list w.0);
      program = unchanged program_in ps (moded m) refl ∙ says.program;
      binary = unchanged binary_in ps (moded m) refl ∙ says.binary;
      input = unchanged input_in ps (moded m) refl ∙ says.input;
      turns = unchanged turns_in ps (moded m) refl ∙ says.turns;
    })
adds s next (main_file n) ps e says =
    let w = when_none s.program (record s { program = Some n }) next e in
    subst (λ (t : Said). Says (ps ++ main_file n ∷ []) t) w.1 (record {
      mode = unchanged mode_in ps (main_file n) refl ∙ says.mode;
      program = first_one program_in ps (main_file n) n refl (says.program ∙ ap option_to_list w.0);
      binary = unchanged binary_in ps (main_file n) refl ∙ says.binary;
      input = unchanged input_in ps (main_file n) refl ∙ says.input;
      turns = unchanged turns_in ps (main_file n) refl ∙ says.turns;
    })
adds s next (binary_file n) ps e says =
    let w = when_none s.binary (record s { binary = Some n }) next e in
    subst (λ (t : Said). Says (ps ++ binary_file n ∷ []) t) w.1 (record {
      mode = unchanged mode_in ps (binary_file n) refl ∙ says.mode;
      program = unchanged program_in ps (binary_file n) refl ∙ says.program;
      binary = first_one binary_in ps (binary_file n) n refl (says.binary ∙ ap option_to_list w.0);
      input = unchanged input_in ps (binary_file n) refl ∙ says.input;
      turns = unchanged turns_in ps (binary_file n) refl ∙ says.turns;
    })
adds s next (input_file n) ps e says =
    let w = when_none s.input (record s { input = Some n }) next e in
    subst (λ (t : Said). Says (ps ++ input_file n ∷ []) t) w.1 (record {
      mode = unchanged mode_in ps (input_file n) refl ∙ says.mode;
      program = unchanged program_in ps (input_file n) refl ∙ says.program;
      binary = unchanged binary_in ps (input_file n) refl ∙ says.binary;
      input = first_one input_in ps (input_file n) n refl (says.input ∙ ap option_to_list w.0);
      turns = unchanged turns_in ps (input_file n) refl ∙ says.turns;
    })
adds s next (turn_limit n) ps e says =
    let w = when_none s.turns (record s { turns = Some n }) next e in
    subst (λ (t : Said). Says (ps ++ turn_limit n ∷ []) t) w.1 (record {
      mode = unchanged mode_in ps (turn_limit n) refl ∙ says.mode;
      program = unchanged program_in ps (turn_limit n) refl ∙ says.program;
      binary = unchanged binary_in ps (turn_limit n) refl ∙ says.binary;
      input = unchanged input_in ps (turn_limit n) refl ∙ says.input;
      turns = first_one turns_in ps (turn_limit n) n refl (says.turns ∙ ap option_to_list w.0);
    })

refuses : (s t : Said) (p : Part) (ps more : List Part) → added s p ≡ None → Says ps s → Says (ps ++ p ∷ more) t → ⊥
refuses s t (moded m) ps more e says all =
    let w = when_some s.mode (record s { mode = Some m }) e in twice mode_in ps (moded m) more w.0 m t.mode (says.mode ∙ ap option_to_list w.1) refl all.mode
refuses s t (main_file n) ps more e says all =
    let w = when_some s.program (record s { program = Some n }) e in twice program_in ps (main_file n) more w.0 n t.program (says.program ∙ ap option_to_list w.1) refl all.program
refuses s t (binary_file n) ps more e says all =
    let w = when_some s.binary (record s { binary = Some n }) e in twice binary_in ps (binary_file n) more w.0 n t.binary (says.binary ∙ ap option_to_list w.1) refl all.binary
refuses s t (input_file n) ps more e says all =
    let w = when_some s.input (record s { input = Some n }) e in twice input_in ps (input_file n) more w.0 n t.input (says.input ∙ ap option_to_list w.1) refl all.input
refuses s t (turn_limit n) ps more e says all =
    let w = when_some s.turns (record s { turns = Some n }) e in twice turns_in ps (turn_limit n) more w.0 n t.turns (says.turns ∙ ap option_to_list w.1) refl all.turns

-- ---- commands

abbrev all_of : Command → Said
all_of c = record { mode = Some c.mode; program = Some c.program; binary = c.binary; input = c.input; turns = c.turns }

said_by : (words : List (List ℕ)) (c : Command) (t : Takes words c) → Says t.parts (all_of c)
said_by words c t = record { mode = t.mode; program = t.program; binary = t.binary; input = t.input; turns = t.turns }

-- the parts of words that are taken go on where words were read
module _ (words left : List (List ℕ)) (said : Said) (b : SaysBefore words left said) (c : Command) (t : Takes words c) where
  on : (more : List Part) × (t.parts ≡ b.parts ++ more) × (left ≡ flat_map spell more) × AreNamed more
  on = behind_parts b.parts t.parts left (sym b.spelled ∙ t.spelled) b.named t.named

  all_said : (more : List Part) → t.parts ≡ b.parts ++ more → Says (b.parts ++ more) (all_of c)
  all_said more e = subst (λ (ps : List Part). Says ps (all_of c)) e (said_by words c t)

  no_first : ((p : Part) (behind : List (List ℕ)) → Begins left p behind → ⊥) → (left ≡ [] → ⊥) → ⊥
  no_first none some = by on.0 on.2 on.3
    where
      by : (more : List Part) → left ≡ flat_map spell more → AreNamed more → ⊥
      by [] e h = some e
      by (p ∷ more) e h = none p (flat_map spell more) (record { spelled = e; named = h.0 })

  no_added : (p : Part) (behind : List (List ℕ)) → Begins left p behind → added said p ≡ None → ⊥
  no_added p behind begins e = by on.0 on.1 on.2 on.3
    where
      by : (more : List Part) → t.parts ≡ b.parts ++ more → left ≡ flat_map spell more → AreNamed more → ⊥
      by [] f g h = no_words p behind (sym begins.spelled ∙ g)
      by (q ∷ more) f g h =
          let one = one_part p q behind (flat_map spell more) (sym begins.spelled ∙ g) begins.named h.0 in
          refuses said (all_of c) p b.parts more e b.says (subst (λ (x : Part). Says (b.parts ++ x ∷ more) (all_of c)) (sym one.0) (all_said (q ∷ more) f))

pub stops_first : (words left : List (List ℕ)) (said : Said) → SaysBefore words left said → ((p : Part) (behind : List (List ℕ)) → Begins left p behind → ⊥) → (left ≡ [] → ⊥) → (c : Command) → Takes words c → ⊥
stops_first words left said b none some c t = no_first words left said b c t none some

pub stops_added : (words left behind : List (List ℕ)) (said : Said) (p : Part) → SaysBefore words left said → Begins left p behind → added said p ≡ None → (c : Command) → Takes words c → ⊥
stops_added words left behind said p b begins e c t = no_added words left said b c t p behind begins e

pub goes_on : (words left behind : List (List ℕ)) (said next : Said) (p : Part) → SaysBefore words left said → Begins left p behind → added said p ≡ Some next → SaysBefore words behind next
goes_on words left behind said next p b begins e = record {
  parts = b.parts ++ p ∷ [];
  spelled = b.spelled ∙ ap (λ (l : List (List ℕ)). flat_map spell b.parts ++ l) begins.spelled ∙ sym (append_assoc (flat_map spell b.parts) (spell p) behind) ∙
      ap (λ (l : List (List ℕ)). l ++ behind) (flat_map_more spell [] b.parts p);
  named = named_more b.parts p b.named begins.named;
  says = adds said next p b.parts e b.says;
}

pub begun : (words : List (List ℕ)) → SaysBefore words words (record { mode = None; program = None; binary = None; input = None; turns = None })
begun words = record { parts = []; spelled = refl; named = tt; says = record { mode = refl; program = refl; binary = refl; input = refl; turns = refl } }

-- the same parts
parts_once : (words : List (List ℕ)) (said : Said) (b : SaysBefore words [] said) (c : Command) (t : Takes words c) → Says b.parts (all_of c)
parts_once words said b c t =
    let go = on words [] said b c t in
    subst (λ (ps : List Part). Says ps (all_of c)) (ap (λ (ms : List Part). b.parts ++ ms) (no_parts go.0 go.2) ∙ append-nil b.parts) (all_said words [] said b c t go.0 go.1)

pub is_command : (words : List (List ℕ)) (said : Said) → SaysBefore words [] said → (c : Command) → Takes words c → IsCommand said c
is_command words said b c t =
    let all = parts_once words said b c t in record {
      mode = same_option said.mode (Some c.mode) (sym b.says.mode ∙ all.mode);
      program = same_option said.program (Some c.program) (sym b.says.program ∙ all.program);
      binary = same_option said.binary c.binary (sym b.says.binary ∙ all.binary);
      input = same_option said.input c.input (sym b.says.input ∙ all.input);
      turns = same_option said.turns c.turns (sym b.says.turns ∙ all.turns);
      options = t.options;
    }

pub takes_said : (words : List (List ℕ)) (said : Said) → SaysBefore words [] said → (c : Command) → IsCommand said c → Takes words c
takes_said words said b c is = record {
  parts = b.parts;
  spelled = b.spelled ∙ append-nil (flat_map spell b.parts);
  named = b.named;
  mode = b.says.mode ∙ ap option_to_list is.mode;
  program = b.says.program ∙ ap option_to_list is.program;
  binary = b.says.binary ∙ ap option_to_list is.binary;
  input = b.says.input ∙ ap option_to_list is.input;
  turns = b.says.turns ∙ ap option_to_list is.turns;
  options = is.options;
}

pub same_command : (m n : Mode) (p q : List ℕ) (b d i j : Option (List ℕ)) (t u : Option ℕ) → m ≡ n → p ≡ q → b ≡ d → i ≡ j → t ≡ u
    → Path Command (record { mode = m; program = p; binary = b; input = i; turns = t }) (record { mode = n; program = q; binary = d; input = j; turns = u })
same_command m n p q b d i j t u e f g h k = cc

pub one_command : (words : List (List ℕ)) (c d : Command) → Takes words c → Takes words d → c ≡ d
one_command words c d t u =
    let said = all_of c in
    let b : SaysBefore words [] said = record { parts = t.parts; spelled = t.spelled ∙ sym (append-nil (flat_map spell t.parts)); named = t.named; says = said_by words c t } in
    let is = is_command words said b d u in
    let modes : c.mode ≡ d.mode = let e = is.mode in cc in
    let programs : c.program ≡ d.program = let e = is.program in cc in
    same_command c.mode d.mode c.program d.program c.binary d.binary c.input d.input c.turns d.turns modes programs is.binary is.input is.turns

-- ---- the words of the code

length_texts : (words : List (String Global)) → length (texts words) ≡ length words
length_texts [] = refl
length_texts (w ∷ words) = ap suc (length_texts words)

longer : (p : Part) (r : List (List ℕ)) → length r < length (spell p ++ r)
longer (moded m) r = omega arith
longer (main_file n) r = omega arith
longer (binary_file n) r = omega arith
longer (input_file n) r = omega arith
longer (turn_limit n) r = omega arith

pub fewer : (left behind : List (String Global)) (p : Part) → Begins (texts left) p (texts behind) → length behind < length left
fewer left behind p begins =
    let a = length_texts left in let b = length_texts behind in
    let e : length (texts left) ≡ length (spell p ++ texts behind) = ap length begins.spelled in
    let l = longer p (texts behind) in omega (arith, a, b, e, l)

pub not_empty : (left : List (String Global)) (b : Bool) → b ≡ (length left == 0) → b ≡ false → texts left ≡ [] → ⊥
not_empty [] b e t z = let other : true ≡ false = sym e ∙ t in absurd cc
not_empty (w ∷ left) b e t z = cc

pub first_word : (words : List (String Global)) (d : String Global) → 1 ≤ length words → texts words ≡ string_bytes (get_or words 0 d) ∷ texts (drop 1 words)
first_word [] d n = absurd (omega (arith, n))
first_word (w ∷ words) d n = refl

-- ---- answers of the code

pub if_none : {A : Type 0} {P : Type 0} (r : Option A) → P → IfNone r P
if_none None p = p
if_none (Some x) p = tt

pub if_none_then : {A : Type 0} {P Q : Type 0} (r : Option A) → (P → Q) → IfNone r P → IfNone r Q
if_none_then None f p = f p
if_none_then (Some x) f p = tt

-- ---- questions

-- a command is more than one word that names no file and asks for no mode
module _ (words : List (List ℕ)) (command : Command) (t : Takes words command) (q : List ℕ) (none : names_file q ≡ false) (other : (mode : Mode) → flag_of mode ≡ q → ⊥) (e : words ≡ q ∷ []) where
  not_alone : (parts : List Part) → words ≡ flat_map spell parts → AreNamed parts → flat_map mode_in parts ≡ command.mode ∷ [] → ⊥
  not_alone [] s h m = cc
  not_alone (moded m ∷ rest) s h k = other m (heads (flag_of m) q (flat_map spell rest) [] (sym s ∙ e)).0
  not_alone (main_file n ∷ rest) s h k =
      let same = (heads n q (flat_map spell rest) [] (sym s ∙ e)).0 in let no : names_file n ≡ false = ap names_file same ∙ none in let both : names_source n ≡ true = h.0 in absurd (search (rules, no, both))
  not_alone (binary_file n ∷ rest) s h k = let more = (heads (codes "--binary") q (n ∷ flat_map spell rest) [] (sym s ∙ e)).1 in cc
  not_alone (input_file n ∷ rest) s h k = let more = (heads (codes "--input") q (n ∷ flat_map spell rest) [] (sym s ∙ e)).1 in cc
  not_alone (turn_limit n ∷ rest) s h k = let more = (heads (codes "--turns") q (decimal n ∷ flat_map spell rest) [] (sym s ∙ e)).1 in cc

no_mode_help : (mode : Mode) → flag_of mode ≡ codes "--help" → ⊥
no_mode_help Single e = cc
no_mode_help Alternate e = cc
no_mode_help Reference e = cc
no_mode_help Check e = cc

no_mode_version : (mode : Mode) → flag_of mode ≡ codes "--version" → ⊥
no_mode_version Single e = cc
no_mode_version Alternate e = cc
no_mode_version Reference e = cc
no_mode_version Check e = cc

pub is_no_question : (words : List (List ℕ)) (command : Command) → Takes words command → (question : Question) → Asks words question → ⊥
is_no_question words command t Help e = not_alone words command t (codes "--help") refl no_mode_help e t.parts t.spelled t.named t.mode
is_no_question words command t Version e = not_alone words command t (codes "--version") refl no_mode_version e t.parts t.spelled t.named t.mode

-- ---- turns

turns_of_parts : (ps : List Part) (n : ℕ) (rest : List ℕ) → flat_map turns_in ps ≡ n ∷ rest → AreNamed ps → IsTurns n
turns_of_parts [] n rest e h = absurd cc
turns_of_parts (moded m ∷ ps) n rest e h = turns_of_parts ps n rest e h.1
turns_of_parts (main_file m ∷ ps) n rest e h = turns_of_parts ps n rest e h.1
turns_of_parts (binary_file m ∷ ps) n rest e h = turns_of_parts ps n rest e h.1
turns_of_parts (input_file m ∷ ps) n rest e h = turns_of_parts ps n rest e h.1
turns_of_parts (turn_limit t ∷ ps) n rest e h = let same : t ≡ n = cc in subst IsTurns same h.0

-- those of a command are in range
pub turns_within : (words : List (List ℕ)) (c : Command) → Takes words c → IfSome c.turns IsTurns
turns_within words c t = by c.turns t.turns
  where
    by : (o : Option ℕ) → flat_map turns_in t.parts ≡ option_to_list o → IfSome o IsTurns
    by None e = tt
    by (Some n) e = turns_of_parts t.parts n [] e t.named

-- ---- numbers

-- a word that is read as no number is what is written for none
pub no_number : {E : Type 0} (word : List ℕ) (r : Result ℕ E) (e : E) → r ≡ Err e → ParsesUnsigned 64 10 word r → (number : ℕ) → word ≡ decimal number → number < 2 ^ 64 → ⊥
no_number word r e is parses number same small = let read = parse-decimal 64 number word r small small same parses in cc

-- a word that is not what is written for the number as which it is read is what is written for none
pub other_number : {E : Type 0} (word : List ℕ) (r : Result ℕ E) (found : ℕ) (b : Bool) → r ≡ Ok found → ParsesUnsigned 64 10 word r → b ≡ pointwise nat_eq word (decimal found)
    → IfNone (then_some b found) ((number : ℕ) → word ≡ decimal number → number < 2 ^ 64 → ⊥)
other_number word r found true is parses same = tt
other_number word r found false is parses same = λ number e small.
    let read = parse-decimal 64 number word r small small e parses in
    let one : found ≡ number = cc in
    let equal : bytes_eq word (decimal found) ≡ true = (bytes_eq-Decides word (decimal found)).1 (e ∙ ap decimal (sym one)) in
    let no : false ≡ true = same ∙ equal in absurd cc

-- a number that is too small or too large is none of turns
pub other_turns : (word : List ℕ) (found : ℕ) (b : Bool) → word ≡ decimal found → found < 2 ^ 64 → b ≡ (nat_le 1 found && nat_le found 1000000000000)
    → IfNone (then_some b found) ((turns : ℕ) → word ≡ decimal turns → IsTurns turns → ⊥)
other_turns word found true e small same = tt
other_turns word found false e small same = λ turns f is.
    let least = is.least in let most = is.most in
    let one : found ≡ turns = decimal_injective found turns small (omega arith) (sym e ∙ f) in
    grind (arith, nat_tests, same, one, least, most)
