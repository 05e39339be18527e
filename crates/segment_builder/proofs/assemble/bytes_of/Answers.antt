use Rattle.std.proofs.Common.{◌≡◌, ◌+◌, ◌<◌, ◌^◌, ◌++◌, length, map, Contains, refl, sym, ap, subst, ◌∙◌, arith}
use Rattle.std.specs.Cmp.Lexicographic.{slice_cmp}
use Rattle.std.specs.List.{All}
use Rattle.std.specs.Ordering.{nat_cmp}
use Rattle.flattener.specs.Seen.{block_seen}
use Rattle.segment_parts.specs.Text.{present_text}
use Rattle.segment_parts.specs.declared.columns.Columns.{Columns}
use Rattle.stored_sources.specs.Text.{roots_text}
use Rattle.term_table.specs.Terms.{term_cmp}
use Rattle.segment_builder.specs.Columns.{keyword_groups, number_groups, ordinal_column, terms_in, terms_lent}
use Rattle.segment_builder.specs.Entries.{EntriesState, flats_in, no_entries, with_blocks}
use Rattle.segment_builder.specs.Groups.{groups_seen, AreGroups}
use Rattle.segment_builder.specs.Lists.{AreFieldLists}
use Rattle.segment_builder.specs.Made.{AreSetsOf, IsMade, all_terms, marked_groups}
use Rattle.segment_builder.specs.Members.{keyword_member, number_member, text_member}
use Rattle.segment_builder.specs.Taken.{AreTextEntries, AreValueEntries}
use Rattle.segment_builder.specs.Terms.{row_group, rows_in}
use Rattle.segment_builder.proofs.Added.{gathered_groups, texts_seen}
use Rattle.segment_builder.proofs.Agreeing.{few_documents, fit_roots}
use Rattle.segment_builder.proofs.Put.{all_put, fields_apart, keywords_fit, numbers_fit, scope_count, scopes_fit, terms_fit, texts_fit}
use Rattle.segment_builder.proofs.Stored.{roots_fit, roots_seen}
use Rattle.segment_builder.proofs.assemble.bytes_of.Goals as goal

pub lists_of-requires : goal.lists_of-requires
lists_of-requires c = few_documents c.requires.0 (map block_seen c.args.blocks.now) c.requires.1

pub put_head-requires-clause-below : goal.put_head-requires-clause-below
put_head-requires-clause-below c =
    subst (All (λ scope. scope + 1 < 2 ^ 32)) (sym (c.as_slice-3.ensures.value ∙ c.in_ok-lists.ensures.scopes)) (scopes_fit c.requires.0 (map block_seen c.args.blocks.now) c.requires.1)

pub put_head-requires-clause-few : goal.put_head-requires-clause-few
put_head-requires-clause-few c =
    let blocks = map block_seen c.args.blocks.now in
    omega (arith, ap length (c.as_slice-3.ensures.value ∙ c.in_ok-lists.ensures.scopes), scope_count c.requires.0 blocks c.requires.1, few_documents c.requires.0 blocks c.requires.1)

pub put_roots-requires : goal.put_roots-requires
put_roots-requires c = (roots_fit (map (λ block. block.root) c.args.blocks.now) _ (roots_seen c.args.blocks.now) (fit_roots c.requires.0 (map block_seen c.args.blocks.now) c.requires.1)).each

pub put_terms-requires : goal.put_terms-requires
put_terms-requires c =
    let blocks = map block_seen c.args.blocks.now in
    let it : EntriesState = with_blocks no_entries blocks in
    let rows = rows_in c.as_slice-8.result.now in
    let of_terms : AreFieldLists it c.in_ok-lists.lists.words.items c.as_slice.result.now c.as_slice-2.result.now =
    record { words_are = c.in_ok-lists.ensures.words; keywords_are = rw c.as_slice.ensures.value c.in_ok-lists.ensures.keywords; numbers_are = rw c.as_slice-2.ensures.value c.in_ok-lists.ensures.numbers } in
    let own : AreGroups term_cmp (all_terms it) (map row_group rows) = rw c.as_slice-8.ensures.value (c.in_ok-fields.ensures it of_terms (fields_apart c.requires.0 blocks c.requires.1)) in (
      length (flats_in blocks),
      all_terms it,
      terms_fit c.requires.0 blocks c.requires.1 c.keys_are_ordered.ensures,
      own,
    )

pub put_ordinals-requires-clause-entries : goal.put_ordinals-requires-clause-entries
put_ordinals-requires-clause-entries c =
    let blocks = map block_seen c.args.blocks.now in
    let it : EntriesState = with_blocks no_entries blocks in
    let rows = rows_in c.as_slice-8.result.now in
    let of_terms : AreFieldLists it c.in_ok-lists.lists.words.items c.as_slice.result.now c.as_slice-2.result.now =
    record { words_are = c.in_ok-lists.ensures.words; keywords_are = rw c.as_slice.ensures.value c.in_ok-lists.ensures.keywords; numbers_are = rw c.as_slice-2.ensures.value c.in_ok-lists.ensures.numbers } in
    let own : AreGroups term_cmp (all_terms it) (map row_group rows) = rw c.as_slice-8.ensures.value (c.in_ok-fields.ensures it of_terms (fields_apart c.requires.0 blocks c.requires.1)) in
    let terms : terms_lent c.as_slice-9.result.now ≡ terms_in rows = ap terms_lent c.as_slice-9.ensures.value ∙ c.in_ok-terms.ensures.terms in (
      length (flats_in blocks),
      it.keywords,
      subst (λ own. AreValueEntries (slice_cmp nat_cmp) (λ field bytes. Contains own (field, bytes)) (length (flats_in blocks)) it.keywords) (sym terms) (keywords_fit c.requires.0 blocks c.requires.1 rows own),
      rw c.as_slice-10.ensures.value (gathered_groups keyword_member it.keywords c.in_ok-lists.lists.keywords.items c.in_ok-lists.ensures.keywords),
    )

pub put_numbers-requires : goal.put_numbers-requires
put_numbers-requires c =
    let blocks = map block_seen c.args.blocks.now in
    let it : EntriesState = with_blocks no_entries blocks in (
      length (flats_in blocks),
      it.numbers,
      numbers_fit c.requires.0 blocks c.requires.1,
      rw c.as_slice-11.ensures.value (gathered_groups number_member it.numbers c.in_ok-lists.lists.numbers.items c.in_ok-lists.ensures.numbers),
    )

pub overflow_cast-len : goal.overflow_cast-len
overflow_cast-len c =
    let blocks = map block_seen c.args.blocks.now in
    omega (arith, c.len.ensures, ap length c.in_ok-lists.ensures.scopes, scope_count c.requires.0 blocks c.requires.1, few_documents c.requires.0 blocks c.requires.1)

pub put_texts-requires : goal.put_texts-requires
put_texts-requires c =
    let blocks = map block_seen c.args.blocks.now in
    let it : EntriesState = with_blocks no_entries blocks in
    let texts = c.in_ok-lists.lists.texts.items in
    let count : length (flats_in blocks) ≡ c.len.result = omega (arith, c.len.ensures, ap length c.in_ok-lists.ensures.scopes, scope_count c.requires.0 blocks c.requires.1) in (
      it.texts,
      subst (λ n. AreTextEntries n it.texts) count (texts_fit c.requires.0 blocks c.requires.1),
      rw c.as_slice-12.ensures.value (subst (AreGroups nat_cmp it.texts) (texts_seen texts) (gathered_groups text_member it.texts texts c.in_ok-lists.ensures.texts)),
    )

pub returns : goal.returns
returns c =
    let blocks = map block_seen c.args.blocks.now in
    let it : EntriesState = with_blocks no_entries blocks in
    let rows = rows_in c.as_slice-8.result.now in
    let of_terms : AreFieldLists it c.in_ok-lists.lists.words.items c.as_slice.result.now c.as_slice-2.result.now =
    record { words_are = c.in_ok-lists.ensures.words; keywords_are = rw c.as_slice.ensures.value c.in_ok-lists.ensures.keywords; numbers_are = rw c.as_slice-2.ensures.value c.in_ok-lists.ensures.numbers } in
    let own : AreGroups term_cmp (all_terms it) (map row_group rows) = rw c.as_slice-8.ensures.value (c.in_ok-fields.ensures it of_terms (fields_apart c.requires.0 blocks c.requires.1)) in
    let head = c.in_ok-put_head.ensures in
    let scopes : c.as_slice-3.result.now ≡ it.scopes = c.as_slice-3.ensures.value ∙ c.in_ok-lists.ensures.scopes in
    let sets = subst (λ own. AreSetsOf own head.0) scopes head.1 in
    let count = length c.as_slice-3.result.now in
    let groups = keyword_groups c.as_slice-10.result.now in
    let texts = groups_seen c.as_slice-12.result.now in
    let same : c.len.result ≡ count = omega (arith, c.len.ensures, ap length c.as_slice-3.ensures.value) in
    let terms : terms_lent c.as_slice-9.result.now ≡ terms_in rows = ap terms_lent c.as_slice-9.ensures.value ∙ c.in_ok-terms.ensures.terms in
    let columns : Columns = record {
      documents = count;
      scopes = head.0;
      roots = map (λ block. block.root) c.args.blocks.now;
      terms = rows;
      ordinals = map (ordinal_column (terms_in rows)) groups;
      numbers = number_groups c.as_slice-11.result.now;
      present = marked_groups count texts;
    } in
    let made : IsMade it columns = record {
      documents = ap length scopes;
      scopes = sets.are;
      within = sets.within;
      greatest = sets.greatest;
      rows = own;
      numbers = rw c.as_slice-11.ensures.value (gathered_groups number_member it.numbers c.in_ok-lists.lists.numbers.items c.in_ok-lists.ensures.numbers);
      keywords = groups;
      keyword_groups = rw c.as_slice-10.ensures.value (gathered_groups keyword_member it.keywords c.in_ok-lists.lists.keywords.items c.in_ok-lists.ensures.keywords);
      ordinals = rw terms at c.in_ok-put_ordinals.ensures.named;
      texts = texts;
      text_groups = rw c.as_slice-12.ensures.value (subst (AreGroups nat_cmp it.texts) (texts_seen c.in_ok-lists.lists.texts.items) (gathered_groups text_member it.texts c.in_ok-lists.lists.texts.items c.in_ok-lists.ensures.texts));
      present = refl;
    } in (
      columns,
      made,
      roots_seen c.args.blocks.now,
      c.in_ok-terms.ensures.rows.fewer,
      all_put columns c.new-bytes.result.items c.put_head.new.into.items c.put_roots.new.into.items c.put_terms.new.into.items c.put_ordinals.new.into.items c.put_numbers.new.into.items c.shrink_to_fit.new.self.items
          c.new-bytes.ensures.items
          head.2
          (c.in_ok-put_roots.ensures ∙ ap (λ front. front ++ roots_text (map (λ block. block.root) c.args.blocks.now)) c.in_ok-reserve_exact.ensures.items)
          c.in_ok-terms.ensures.text
          (rw terms at c.in_ok-put_ordinals.ensures.text)
          c.in_ok-put_numbers.ensures
          (c.shrink_to_fit.ensures.items ∙ c.in_ok-put_texts.ensures ∙ ap (λ n. c.put_numbers.new.into.items ++ present_text (marked_groups n texts)) same),
    )
