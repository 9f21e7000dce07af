-- The readers of initializers and declarations find what is spelled, and read it again.
use Rattle.std.proofs.Common.{◌≡◌, ℕ, zero, suc, ◌≤◌, List, [], ◌∷◌, ◌++◌, refl, ap, sym, ◌∙◌, Some, None, inl, arith}
use Rattle.std.proofs.lemmas.List.{append-nil, append_assoc}
use Rattle.c_lexer.specs.declared.token.Token.{Token}
use Rattle.c_lexer.specs.declared.token.TokenKind.TheVariants.{Punct}
use Rattle.c_tree.specs.declared.specifier.Specifier.{Specifier}
use Rattle.c_tree.specs.declared.expression.Expr.{Expr}
use Rattle.c_tree.specs.declared.expression.Declarator.{Declarator}
use Rattle.c_tree.specs.declared.declaration.Declaration.{Declaration}
use Rattle.c_tree.specs.declared.declaration.Item.{Item}
use Rattle.c_tree.specs.declared.declaration.Initializer.{Initializer}
use Rattle.c_tree.specs.declared.declaration.Initializer.TheVariants as i
use Rattle.c_expr.specs.declared.start.Start.{Start}
use Rattle.c_expr.specs.declared.start.Start.TheVariants as at
use Rattle.c_expr.specs.declared.start.Naming.{Naming}
use Rattle.c_expr.specs.declared.start.Naming.TheVariants as how
use Rattle.c_expr.specs.Codes.{open_brace, close_brace, semicolon, equals, comma, specifier_starts, declarator_starts, binary_operators}
use Rattle.c_expr.specs.Nodes.{Bytes}
use Rattle.c_parser.specs.StatementNodes.{item_node, declaration_node}
use Rattle.c_expr.specs.Spelling.{Spelling, One, Is, Sequence, Further, Listed, Maybe, push}
use Rattle.c_expr.specs.Grammar.{IsSpecifiers, ExprAt, DeclaratorAt}
use Rattle.c_parser.specs.Units.{AnyExpr, AnyDeclarator, IsInitializerLine, InitializerAt, IsInitializer, IsGiven, IsItem, IsDeclaration}
use Rattle.c_expr.specs.Reading.{Reader, expr_at, declarator_at}
use Rattle.c_parser.specs.ReadingUnits.{initializer_list, initializer_line, initializer_at, given, item, further_items, declaration}
use Rattle.c_expr.proofs.Sound.{Reads, reads_is, reads_wider}
use Rattle.c_expr.proofs.Starts.{Starts, starts_filled, starts_one, starts_sequence, starts_either, starts_wider}
use Rattle.c_expr.proofs.Short.{reads_seq, reads_after, reads_map, reads_if, reads_swap, reads_repeat, reads_one}
use Rattle.c_expr.proofs.Words.{starts_specifiers, reads_specifiers, reads_listed, starts_comma}
use Rattle.c_expr.proofs.FoundAt.{reads_stop, found_at, a_name, name_word, sample_expr}
use Rattle.c_expr.proofs.ExprStarts.{expr_starts, starts_expr, starts_declarator}
use Rattle.c_expr.proofs.Again.{Ahead, Off, Anything, Again, Clear, again_seq, again_is, again_after, again_behind, again_map, again_if, again_maybe, again_swap, again_repeat, clear_starts, clear_is, clear_or, clear_grown, clear_sequence, again_narrower, again_ahead, again_fewer, off_within}
use Rattle.c_expr.proofs.ExprAgain.{expr_on, level_on, declarator_on, again_specifiers, again_listed, clear_any, clear_one}
use Rattle.c_expr.proofs.AgainAt.{again_at, nothing}

pub reads_fewer : {A : Type 0} {n m : ℕ} {S : Spelling A} {R : Reader A} → m ≤ n → Reads n S R → Reads m S R
reads_fewer le h = record { found = h.found; fault = λ w left few e. h.fault w left (omega (arith, le, few)) e; whole = h.whole; word = h.word; sample = h.sample }

module _ (src : Bytes) where
  pub any_starts : (start : Start) → Starts expr_starts (AnyExpr src start)
  any_starts start x w h = starts_expr src h.0 start x w h.1

  pub declarator_any_starts : (naming : Naming) → Starts declarator_starts (AnyDeclarator src naming)
  declarator_any_starts naming x w h = starts_declarator src h.0 naming x w h.1

  pub any_reads : (n : ℕ) (start : Start) → Reads n (AnyExpr src start) (expr_at src n start)
  any_reads n start = reads_wider n (ExprAt src (suc n) start) (AnyExpr src start) (expr_at src n start) (λ x w h. (suc n, h)) ((found_at src n).expr start)

  pub declarator_any_reads : (n : ℕ) (naming : Naming) → Reads n (AnyDeclarator src naming) (declarator_at src n naming)
  declarator_any_reads n naming = reads_wider n (DeclaratorAt src (suc n) naming) (AnyDeclarator src naming) (declarator_at src n naming) (λ x w h. (suc n, h)) ((found_at src n).declarator naming)

  pub any_again : (n : ℕ) (start : Start) → Again n (AnyExpr src start) (expr_at src n start) (Off (expr_on start))
  any_again n start = record { read = λ x f rest h few p. ((again_at src h.0 n).expr start).read x f rest h.1 few p }

  pub declarator_any_again : (n : ℕ) (naming : Naming) → Again n (AnyDeclarator src naming) (declarator_at src n naming) (Off declarator_on)
  declarator_any_again n naming = record { read = λ x f rest h few p. ((again_at src h.0 n).declarator naming).read x f rest h.1 few p }

  -- ---- initializers

  abbrev pub initializer_starts : List ℕ
  initializer_starts = open_brace ∷ expr_starts

  abbrev value_line : Spelling Initializer
  value_line = Sequence (AnyExpr src at.Assignment) (λ x. Is (i.Value x))

  abbrev list_line : Spelling Initializer → Spelling Initializer
  list_line S = Sequence (One open_brace) (λ t. Sequence (Listed S) (λ inner. Sequence (One close_brace) (λ _. Is (i.List t.line inner))))

  starts_value : Starts expr_starts value_line
  starts_value = starts_sequence expr_starts (AnyExpr src at.Assignment) (any_starts at.Assignment) _

  starts_list : (S : Spelling Initializer) → Starts (open_brace ∷ []) (list_line S)
  starts_list S = starts_sequence (open_brace ∷ []) (One open_brace) (starts_one open_brace) _

  starts_initializer_line : (S : Spelling Initializer) → Starts initializer_starts (IsInitializerLine src S)
  starts_initializer_line S = starts_either initializer_starts value_line (list_line S) (starts_wider expr_starts value_line starts_value initializer_starts refl) (starts_wider (open_brace ∷ []) (list_line S) (starts_list S) initializer_starts refl)

  pub starts_initializer_at : (depth : ℕ) → Starts initializer_starts (InitializerAt src depth)
  unfolding InitializerAt
  starts_initializer_at zero x w h = absurd h
  starts_initializer_at (suc depth) x w h = starts_initializer_line (InitializerAt src depth) x w h

  sample_value : (S : Spelling Initializer) → IsInitializerLine src S (i.Value (a_name src (ExprAt src 0) (DeclaratorAt src 0))) (name_word src (ExprAt src 0) (DeclaratorAt src 0))
  unfolding ExprAt
  sample_value S = inl (record { of = a_name src (ExprAt src 0) (DeclaratorAt src 0); front = name_word src (ExprAt src 0) (DeclaratorAt src 0); back = []; parts = refl; first = (1, sample_expr src (ExprAt src 0) (DeclaratorAt src 0) at.Assignment); second = (refl, refl) })

  module _ (n : ℕ) where
    abbrev E : Start → Reader Expr
    E = expr_at src n

    abbrev D : Naming → Reader Declarator
    D = declarator_at src n

    reads_initializer_line : (d : ℕ) (S : Spelling Initializer) (inner : Reader Initializer) → suc d ≤ n → Reads d S inner → Reads (suc d) (IsInitializerLine src S) (initializer_line E D inner)
    unfolding initializer_list
    reads_initializer_line d S inner le h = reads_swap (reads_if (open_brace ∷ [])
        (reads_after (reads_one (suc d) open_brace (Punct 4) refl) (λ t. reads_seq (reads_listed h) (λ found. reads_seq (reads_one d close_brace (Punct 5) refl) (λ _. reads_is d _))))
        (reads_map i.Value (reads_fewer le (any_reads n at.Assignment))))

    pub reads_initializer_at : (d : ℕ) → d ≤ n → Reads d (InitializerAt src (suc d)) (initializer_at E D d)
    unfolding InitializerAt initializer_at
    reads_initializer_at zero le = reads_stop (InitializerAt src 1) _ _ (sample_value (InitializerAt src 0))
    reads_initializer_at (suc d) le = reads_initializer_line d (InitializerAt src (suc d)) (initializer_at E D d) le (reads_initializer_at d (omega arith))

    pub reads_initializer : Reads n (IsInitializer src) (initializer_at E D n)
    reads_initializer = reads_wider n (InitializerAt src (suc n)) (IsInitializer src) (initializer_at E D n) (λ x w h. (suc n, h)) (reads_initializer_at n (omega arith))

    abbrev pub initializer_on : List ℕ
    initializer_on = expr_on at.Assignment

    again_initializer_line : (d : ℕ) (S : Spelling Initializer) (inner : Reader Initializer) → suc d ≤ n → Again d S inner (Off initializer_on) → Again (suc d) (IsInitializerLine src S) (initializer_line E D inner) (Off initializer_on)
    unfolding initializer_list expr_on level_on binary_operators
    again_initializer_line d S inner le h = again_swap (again_if (open_brace ∷ []) expr_starts (open_brace ∷ []) (starts_list S) refl starts_value refl
        (again_after (λ t. again_seq (again_listed (expr_on at.Assignment) (comma ∷ expr_on at.Assignment) h refl refl refl) (λ found. clear_one close_brace (comma ∷ expr_on at.Assignment) _ refl) (λ found. again_behind (λ _. again_is d _))))
        (again_map i.Value (again_fewer le (any_again n at.Assignment))))

    again_initializer_at : (depth d : ℕ) → d ≤ n → Again d (InitializerAt src depth) (initializer_at E D d) (Off initializer_on)
    unfolding InitializerAt initializer_at
    again_initializer_at zero d le = record { read = λ x f rest h few p. absurd h }
    again_initializer_at (suc depth) zero le = nothing (starts_filled initializer_starts (InitializerAt src (suc depth)) (starts_initializer_at (suc depth)))
    again_initializer_at (suc depth) (suc d) le = again_initializer_line d (InitializerAt src depth) (initializer_at E D d) le (again_initializer_at depth d (omega arith))

    pub again_initializer : Again n (IsInitializer src) (initializer_at E D n) (Off initializer_on)
    again_initializer = record { read = λ x f rest h few p. (again_initializer_at h.0 n (omega arith)).read x f rest h.1 few p }

    -- ---- items and declarations

    abbrev pub item_on : List ℕ
    item_on = equals ∷ declarator_on ++ initializer_on

    pub starts_given : Starts (equals ∷ []) (Sequence (IsGiven src) (λ x. Is (Some x)))
    starts_given = starts_sequence (equals ∷ []) (IsGiven src) (starts_sequence (equals ∷ []) (One equals) (starts_one equals) _) _

    pub reads_given : Reads n (Maybe (IsGiven src)) (given E D n)
    unfolding given
    reads_given = reads_if (equals ∷ []) (reads_map Some (reads_seq (reads_one n equals (Punct 34) refl) (λ _. reads_initializer))) (reads_is n None)

    pub again_given : Again n (Maybe (IsGiven src)) (given E D n) (Off item_on)
    unfolding given expr_on level_on binary_operators
    again_given = again_maybe (equals ∷ []) (equals ∷ []) starts_given refl (clear_is None (Off (equals ∷ [])) (Off item_on) (off_within (equals ∷ []) item_on refl))
        (again_map Some (again_behind (λ _. again_ahead (off_within initializer_on item_on refl) again_initializer))) (again_is n None)

    clear_given : Clear (Off declarator_on) (Maybe (IsGiven src)) (Off item_on)
    unfolding expr_on level_on binary_operators
    clear_given = clear_or (clear_starts (equals ∷ []) declarator_on starts_given refl) (clear_is None (Off declarator_on) (Off item_on) (off_within declarator_on item_on refl))

    pub reads_item : Reads n (IsItem src) (item E D n)
    unfolding item
    reads_item = reads_seq (declarator_any_reads n how.Named) (λ x. reads_seq reads_given (λ g. reads_is n (item_node x g)))

    pub again_item : Again n (IsItem src) (item E D n) (Off item_on)
    unfolding item
    again_item = again_seq (declarator_any_again n how.Named)
        (λ x. clear_sequence clear_given (λ g. clear_is (item_node x g) (Off item_on) (Off item_on) (λ rest q. q)))
        (λ x. again_seq again_given (λ g. clear_is (item_node x g) (Off item_on) (Off item_on) (λ rest q. q)) (λ g. again_is n (item_node x g)))

    pub starts_item : Starts declarator_starts (IsItem src)
    starts_item = starts_sequence declarator_starts (AnyDeclarator src how.Named) (declarator_any_starts how.Named) _

    -- further items and the end
    abbrev pub IsFurther : List Item → Spelling (List Item)
    IsFurther found = Sequence (Further (Sequence (One comma) (λ _. IsItem src)) found) (λ items. Sequence (One semicolon) (λ _. Is items))

    pub reads_further : (found : List Item) → Reads n (IsFurther found) (further_items E D n found)
    unfolding further_items
    reads_further found = reads_seq (reads_repeat (comma ∷ []) push (reads_seq (reads_one n comma (Punct 45) refl) (λ _. reads_item)) (starts_filled (comma ∷ []) (Sequence (One comma) (λ _. IsItem src)) (starts_comma (IsItem src))) found)
        (λ items. reads_seq (reads_one n semicolon (Punct 32) refl) (λ _. reads_is n items))

    pub again_further : {P : Ahead} (found : List Item) → Again n (IsFurther found) (further_items E D n found) P
    unfolding further_items expr_on level_on binary_operators
    again_further found = again_seq (again_repeat (comma ∷ []) item_on (comma ∷ item_on) push (again_behind (λ _. again_item)) (starts_comma (IsItem src)) refl refl refl refl found)
        (λ items. clear_one semicolon (comma ∷ item_on) _ refl) (λ items. again_behind (λ _. again_is n items))

    -- the same declaration, with its parts put together from the left
    abbrev pub FromLeft : Spelling Declaration
    FromLeft = Sequence IsSpecifiers (λ ss. Sequence (IsItem src) (λ first. Sequence (IsFurther (first ∷ [])) (λ items. Is (declaration_node ss items))))

    pub to_left : (x : Declaration) (w : List Token) → IsDeclaration src x w → FromLeft x w
    to_left x w h =
        let listed_part = h.second in
        record {
          of = h.of;
          front = h.front;
          back = h.back;
          parts = h.parts;
          first = h.first;
          second = record {
            of = listed_part.first.of;
            front = listed_part.first.front;
            back = listed_part.first.back ++ listed_part.back;
            parts = listed_part.parts ∙ (ap (λ v. v ++ listed_part.back) listed_part.first.parts ∙ append_assoc listed_part.first.front listed_part.first.back listed_part.back);
            first = listed_part.first.first;
            second = record {
              of = listed_part.of;
              front = listed_part.first.back ++ listed_part.second.front;
              back = listed_part.second.back;
              parts = ap (λ v. listed_part.first.back ++ v) listed_part.second.parts ∙ sym (append_assoc listed_part.first.back listed_part.second.front listed_part.second.back);
              first = record {
                of = listed_part.of;
                front = listed_part.first.back;
                back = listed_part.second.front;
                parts = refl;
                first = listed_part.first.second;
                second = record { of = listed_part.second.of; front = listed_part.second.front; back = []; parts = sym (append-nil listed_part.second.front); first = listed_part.second.first; second = (refl, refl) };
              };
              second = listed_part.second.second;
            };
          };
        }

    pub from_left : (x : Declaration) (w : List Token) → FromLeft x w → IsDeclaration src x w
    from_left x w h =
        let one_item = h.second in
        let more = one_item.second in
        let end = more.first in
        let same : more.of ≡ end.of = end.second.second.0 in
        let value : x ≡ declaration_node h.of more.of = more.second.0 in
        record {
          of = h.of;
          front = h.front;
          back = h.back;
          parts = h.parts;
          first = h.first;
          second = record {
            of = end.of;
            front = one_item.front ++ end.front;
            back = end.second.front;
            parts = one_item.parts ∙ (ap (λ v. one_item.front ++ v) (more.parts ∙ (ap (λ v. more.front ++ v) more.second.1 ∙ (append-nil more.front ∙ (end.parts ∙ ap (λ v. end.front ++ v) (end.second.parts ∙ (ap (λ v. end.second.front ++ v) end.second.second.1 ∙ append-nil end.second.front)))))) ∙ sym (append_assoc one_item.front end.front end.second.front));
            first = record { of = one_item.of; front = one_item.front; back = end.front; parts = refl; first = one_item.first; second = end.first };
            second = record { of = end.second.of; front = end.second.front; back = []; parts = sym (append-nil end.second.front); first = end.second.first; second = (value ∙ ap (declaration_node h.of) same, refl) };
          };
        }

    pub reads_declaration : Reads n (IsDeclaration src) (declaration E D n)
    unfolding declaration
    reads_declaration = reads_wider n FromLeft (IsDeclaration src) (declaration E D n) from_left
        (reads_seq (reads_specifiers n) (λ ss. reads_seq reads_item (λ first. reads_seq (reads_further (first ∷ [])) (λ items. reads_is n (declaration_node ss items)))))

    further_clear : (found : List Item) (ss : List Specifier) → Clear (Off item_on) (Sequence (IsFurther found) (λ items. Is (declaration_node ss items))) Anything
    unfolding expr_on level_on binary_operators
    further_clear found ss = clear_sequence {O = Anything} (clear_sequence {O = Off item_on} (clear_grown push found (clear_starts (comma ∷ []) item_on (starts_comma (IsItem src)) refl) (λ rest q. q)) (λ items. clear_one semicolon item_on _ refl)) (λ items. clear_any)

    pub again_declaration : {P : Ahead} → Again n (IsDeclaration src) (declaration E D n) P
    unfolding declaration
    again_declaration {P = P} = again_narrower to_left (again_ahead {P = Anything} {Q = P} (λ rest q. tt) (again_seq (again_specifiers n)
        (λ ss. clear_starts declarator_starts specifier_starts (starts_sequence declarator_starts (IsItem src) starts_item _) refl)
        (λ ss. again_seq again_item (λ first. further_clear (first ∷ []) ss) (λ first. again_seq {P = Anything} (again_further (first ∷ [])) (λ items. clear_any) (λ items. again_is n (declaration_node ss items))))))

  pub starts_declaration : Starts specifier_starts (IsDeclaration src)
  starts_declaration = starts_sequence specifier_starts IsSpecifiers starts_specifiers _
